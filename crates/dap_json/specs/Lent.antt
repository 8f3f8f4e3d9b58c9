-- Values that are lent, by their data.
use Rattle.std.specs.Borrow.{Bor}
use Rattle.std.specs.Prelude.{Option, option_map}
use Rattle.serde_json.specs.Data.{Data}
use Rattle.serde_json.specs.View.{view}
use Rattle.serde_json.specs.declared.value.Value.{Value}

-- the data of a value that may be absent
abbrev pub lent_data : Option (Bor Value) → Option Data
lent_data found = option_map (λ value. view value.now) found

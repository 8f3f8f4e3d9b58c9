-- What a tree and a text hold: a value of their own, or one that is shared with their copies. Only their models cite this.
use Rattle.std.specs.Prelude.{ℕ, List, string_bytes}
use Rattle.serde_json.specs.Data.{Data}
use Rattle.serde_json.specs.View.{view}
use Rattle.dap_json.specs.declared.tree.HeldValue.{HeldValue}
use Rattle.dap_json.specs.declared.tree.HeldValue.TheVariants.{Own as OwnValue, Shared as SharedValue}
use Rattle.dap_json.specs.declared.text.HeldText.{HeldText}
use Rattle.dap_json.specs.declared.text.HeldText.TheVariants.{Own as OwnText, Shared as SharedText}

abbrev pub data_of : HeldValue → Data
data_of (OwnValue v) = view v
data_of (SharedValue arc) = view arc.value

abbrev pub bytes_of : HeldText → List ℕ
bytes_of (OwnText s) = string_bytes s
bytes_of (SharedText arc) = string_bytes arc.value

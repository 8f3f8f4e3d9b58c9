use Rattle.std.proofs.Common.{◌≡◌, ℕ, ◌<◌, ◌≤◌, get_or, take}
use Rattle.std.specs.Str.Parse.{digits_value}
use Rattle.dap_json.proofs.digits.whole.Given as goal

abbrev pub invariant-loop-byte : goal.invariant-loop-byte
invariant-loop-byte l = (l.n ≡ digits_value 10 (take l.byte-index l.text)) × ((k : ℕ) → k < l.byte-index → (48 ≤ get_or l.text k 0) × (get_or l.text k 0 ≤ 57))

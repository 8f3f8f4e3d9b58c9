use Rattle.std.proofs.Common.{◌≡◌, ℕ, ◌≤◌, ◌++◌, length}
use Rattle.json.specs.Json.{items, value, parse_map}
use Rattle.serde_json.specs.Data.{Items}
use Rattle.serde_json.specs.Read.{of_items, converted}
use Rattle.dap_json.specs.Inside.{numbers_in}
use Rattle.dap_json.proofs.inside.rows.Given as goal

abbrev pub invariant-rows : goal.invariant-rows
invariant-rows l =
    (n : ℕ) × (length l.reader ≤ n)
    × ((f : Items → Items) × (converted of_items (items (value 124) (length l.initial.reader) l.initial.reader) ≡ parse_map f (converted of_items (items (value 124) n l.reader)))
    × ((ds : Items) → l.initial.found.items ++ numbers_in l.key l.range.least l.range.most (f ds) ≡ l.found.items ++ numbers_in l.key l.range.least l.range.most ds))
    × (length l.reader ≤ length l.initial.reader)

abbrev pub decreases-rows : goal.decreases-rows
decreases-rows l = length l.reader

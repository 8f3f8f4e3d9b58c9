use Rattle.std.proofs.Common.{◌≡◌, ℕ, ◌≤◌, ◌++◌, length, None}
use Rattle.json.specs.Json.{items, value, parse_map}
use Rattle.serde_json.specs.Data.{Items}
use Rattle.serde_json.specs.Read.{of_items, converted}
use Rattle.dap_json.specs.Inside.{numbers_in}
use Rattle.dap_shape.specs.Faults.{items_fault}
use Rattle.dap_shape.specs.declared.shape.Kind.TheVariants.{Object}
use Rattle.dap_shape.proofs.sound.item_numbers.Given as goal

abbrev pub invariant-items : goal.invariant-items
invariant-items l =
    (n : ℕ) × (length l.reader ≤ n)
    × ((f : Items → Items) × (converted of_items (items (value 124) (length l.initial.reader) l.initial.reader) ≡ parse_map f (converted of_items (items (value 124) n l.reader)))
    × ((ds : Items) → l.initial.found.items ++ numbers_in l.key l.range.least l.range.most (f ds) ≡ l.found.items ++ numbers_in l.key l.range.least l.range.most ds)
    × ((k : ℕ) × ((ds : Items) → items_fault k (Object l.name) ds ≡ None → items_fault 0 (Object l.name) (f ds) ≡ None)))
    × (length l.reader ≤ length l.initial.reader)

abbrev pub decreases-items : goal.decreases-items
decreases-items l = length l.reader

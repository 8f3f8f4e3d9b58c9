use Rattle.std.proofs.Common.{◌≡◌, ℕ, ◌+◌, ◌*◌, ◌≤◌, length, None}
use Rattle.std.specs.Prelude.{map}
use Rattle.json.specs.Json.{items, members, value, parse_map}
use Rattle.serde_json.specs.Data.{Items, Members, no_members, object}
use Rattle.serde_json.specs.Read.{of_items, of_members, converted}
use Rattle.dap_json.specs.Field.{whole_at}
use Rattle.dap_shape.specs.Faults.{items_fault}
use Rattle.dap_shape.specs.Seen.{row_seen}
use Rattle.dap_shape.specs.PrivateSound.{AreKept}
use Rattle.dap_shape.proofs.sound.+sound.Given as goal

abbrev pub decreases-value : goal.decreases-value
decreases-value l = 4 * l.depth + 2

abbrev pub decreases-object : goal.decreases-object
decreases-object l = 4 * l.depth + 1

abbrev pub decreases-list : goal.decreases-list
decreases-list l = 4 * l.depth + 1

abbrev pub decreases-items : goal.decreases-items
decreases-items l = 4 * l.depth + 3

abbrev pub decreases-members : goal.decreases-members
decreases-members l = 4 * l.depth + 4

abbrev pub decreases-member : goal.decreases-member
decreases-member l = 4 * l.depth + 3

abbrev pub invariant-items-items : goal.invariant-items-items
invariant-items-items l =
    (n : ℕ) × (length l.reader ≤ n)
    × ((f : Items → Items) × (converted of_items (items (value l.depth) (length l.initial.reader) l.initial.reader) ≡ parse_map f (converted of_items (items (value l.depth) n l.reader)))
    × ((k : ℕ) × ((ds : Items) → items_fault k l.fn.kind ds ≡ None → items_fault 0 l.fn.kind (f ds) ≡ None)))
    × (length l.reader ≤ length l.initial.reader)

abbrev pub decreases-items-items : goal.decreases-items-items
decreases-items-items l = length l.reader

abbrev pub invariant-members-members : goal.invariant-members-members
invariant-members-members l =
    (n : ℕ) × (length l.reader ≤ n)
    × ((before : Members) × (converted (λ ms. of_members ms no_members) (members (value l.depth) (length l.initial.reader) l.initial.reader) ≡ converted (λ ms. of_members ms before) (members (value l.depth) n l.reader))
    × AreKept before (map row_seen l.rows) l.seen × (l.found ≡ whole_at l.key (object before)))
    × (length l.reader ≤ length l.initial.reader)

abbrev pub decreases-members-members : goal.decreases-members-members
decreases-members-members l = length l.reader

use Rattle.std.proofs.Common.{◌≡◌, ℕ, ◌+◌, ◌*◌, ◌≤◌, length}
use Rattle.json.specs.Json.{items, members, value, parse_map}
use Rattle.serde_json.specs.Data.{Items, Members, no_members}
use Rattle.serde_json.specs.Read.{of_items, of_members, converted}
use Rattle.dap_json.proofs.object_reader.+object_reader.Given as goal

abbrev pub decreases-value : goal.decreases-value
decreases-value l = 2 * l.depth

abbrev pub decreases-items : goal.decreases-items
decreases-items l = 2 * l.depth + 1

abbrev pub decreases-members : goal.decreases-members
decreases-members l = 2 * l.depth + 1

abbrev pub invariant-items-items : goal.invariant-items-items
invariant-items-items l =
    (n : ℕ) × (length l.reader ≤ n)
    × ((f : Items → Items) × (converted of_items (items (value l.depth) (length l.initial.reader) l.initial.reader) ≡ parse_map f (converted of_items (items (value l.depth) n l.reader))))
    × (length l.reader ≤ length l.initial.reader)

abbrev pub decreases-items-items : goal.decreases-items-items
decreases-items-items l = length l.reader

abbrev pub invariant-members-members : goal.invariant-members-members
invariant-members-members l =
    (n : ℕ) × (length l.reader ≤ n)
    × ((found : Members) × (converted (λ ms. of_members ms no_members) (members (value l.depth) (length l.initial.reader) l.initial.reader) ≡ converted (λ ms. of_members ms found) (members (value l.depth) n l.reader)))
    × (length l.reader ≤ length l.initial.reader)

abbrev pub decreases-members-members : goal.decreases-members-members
decreases-members-members l = length l.reader

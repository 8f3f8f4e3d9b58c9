use Rattle.std.proofs.Common.{◌≡◌, ℕ, ◌≤◌, length}
use Rattle.json.specs.Json.{members, value}
use Rattle.serde_json.specs.Data.{Members, no_members, object}
use Rattle.serde_json.specs.Read.{of_members, converted}
use Rattle.dap_json.specs.Field.{whole_at}
use Rattle.dap_json.proofs.inside.number_at.Given as goal

abbrev pub invariant-members : goal.invariant-members
invariant-members l =
    (n : ℕ) × (length l.reader ≤ n)
    × ((before : Members) × (converted (λ ms. of_members ms no_members) (members (value 123) (length l.initial.reader) l.initial.reader) ≡ converted (λ ms. of_members ms before) (members (value 123) n l.reader)) × (l.found ≡ whole_at l.key (object before)))
    × (length l.reader ≤ length l.initial.reader)

abbrev pub decreases-members : goal.decreases-members
decreases-members l = length l.reader

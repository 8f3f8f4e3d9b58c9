use Rattle.std.proofs.Common.{◌≡◌, ℕ, ◌≤◌, length}
use Rattle.std.specs.Prelude.{map}
use Rattle.json.specs.Json.{members, value}
use Rattle.serde_json.specs.Data.{Members, no_members, object}
use Rattle.serde_json.specs.Read.{of_members, converted}
use Rattle.dap_command.specs.Gathered.{AreGivenBy}
use Rattle.dap_shape.specs.Seen.{row_seen}
use Rattle.dap_shape.specs.PrivateSound.{AreKept}
use Rattle.dap_shape.proofs.body.take_members.Given as goal

abbrev pub invariant-members : goal.invariant-members
invariant-members l =
    (n : ℕ) × (length l.reader ≤ n)
    × ((before : Members) × (converted (λ ms. of_members ms no_members) (members (value 125) (length l.initial.reader) l.initial.reader) ≡ converted (λ ms. of_members ms before) (members (value 125) n l.reader))
    × AreKept before (map row_seen l.rows) l.seen × AreGivenBy l.given (object before))
    × (length l.reader ≤ length l.initial.reader)

abbrev pub decreases-members : goal.decreases-members
decreases-members l = length l.reader

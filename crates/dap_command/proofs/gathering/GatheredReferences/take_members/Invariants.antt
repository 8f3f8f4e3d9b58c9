use Rattle.std.proofs.Common.{◌≤◌, length}
use Rattle.serde_json.specs.Data.{Members, object, no_members}
use Rattle.dap_json.specs.Inside.{IsRestInside, Tokens}
use Rattle.dap_command.specs.Gathered.{AreGivenBy}
use Rattle.dap_command.proofs.gathering.GatheredReferences.take_members.Given as goal

abbrev pub invariant-loop-key : goal.invariant-loop-key
invariant-loop-key l =
    (found : Members) × AreGivenBy l.self (object found) × ((rest : Tokens) (all : Members) → IsRestInside l.object_reader rest found all → IsRestInside l.initial.object_reader rest no_members all) × (length l.object_reader ≤ length l.initial.object_reader)

abbrev pub decreases-loop-key : goal.decreases-loop-key
decreases-loop-key l = length l.object_reader

use Rattle.std.proofs.Common.{length}
use Rattle.serde_json.specs.Data.{Members, no_members}
use Rattle.serde_json.specs.View.{members_view}
use Rattle.dap_json.specs.ObjectReader.{IsRestOf}
use Rattle.dap_line.proofs.reading.members.Given as goal

-- with what is left, the members so far are all of them
abbrev pub invariant-loop-found : goal.invariant-loop-found
invariant-loop-found l = (all : Members) → IsRestOf l.object_reader (members_view l.found.entries) all → IsRestOf l.initial.object_reader no_members all

abbrev pub decreases-loop-found : goal.decreases-loop-found
decreases-loop-found l = length l.object_reader

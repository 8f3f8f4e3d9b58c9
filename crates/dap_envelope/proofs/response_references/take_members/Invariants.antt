use Rattle.std.proofs.Common.{length}
use Rattle.serde_json.specs.Data.{Members, no_members}
use Rattle.dap_json.specs.ObjectReader.{IsRestOf}
use Rattle.dap_envelope.specs.ResponseReferences.{NotesAndGathers}
use Rattle.dap_envelope.proofs.response_references.take_members.Given as goal

abbrev pub invariant-loop-key : goal.invariant-loop-key
invariant-loop-key l = (found : Members) × NotesAndGathers l.noted l.given found × ((all : Members) → IsRestOf l.object_reader found all → IsRestOf l.initial.object_reader no_members all)

abbrev pub decreases-loop-key : goal.decreases-loop-key
decreases-loop-key l = length l.object_reader

use Rattle.std.proofs.Common.{◌≡◌, length}
use Rattle.dap_command.specs.GivenReferences.{references_of}
use Rattle.dap_command.proofs.given_references.first_reference.Given as goal

abbrev pub invariant-loop-value : goal.invariant-loop-value
invariant-loop-value l = references_of l.key l.least l.rest ≡ references_of l.key l.least l.values

abbrev pub decreases-loop-value : goal.decreases-loop-value
decreases-loop-value l = length l.rest

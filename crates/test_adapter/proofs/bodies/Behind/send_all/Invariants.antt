use Rattle.std.proofs.Common.{length}
use Rattle.test_adapter.proofs.bodies.Behind.send_all.Given as goal

abbrev pub decreases-loop-body : goal.decreases-loop-body
decreases-loop-body l = length l.rest

use Rattle.std.proofs.Common.{◌≡◌, ◌+◌, length}
use Rattle.dap_outbox.specs.Waiting.{lent_ones}
use Rattle.dap_outbox.proofs.waiting.lent_count.Given as goal

abbrev pub invariant-loop-count : goal.invariant-loop-count
invariant-loop-count l = l.count + length l.lent ≡ length (lent_ones l.kept.kept)

abbrev pub decreases-loop-count : goal.decreases-loop-count
decreases-loop-count l = length l.lent

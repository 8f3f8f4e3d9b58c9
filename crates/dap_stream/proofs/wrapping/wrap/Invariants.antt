use Rattle.std.proofs.Common.{length}
use Rattle.dap_stream.proofs.Wrapped.{Wrapped}
use Rattle.dap_stream.proofs.wrapping.wrap.Given as goal

abbrev pub invariant-loop-rest : goal.invariant-loop-rest
invariant-loop-rest l = Wrapped l.fn.limits l.bytes l.rest l.out.items l.number

abbrev pub decreases-loop-rest : goal.decreases-loop-rest
decreases-loop-rest l = length l.rest

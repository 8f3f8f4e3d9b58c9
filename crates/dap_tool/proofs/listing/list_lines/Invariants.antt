use Rattle.std.proofs.Common.{length}
use Rattle.dap_tool.proofs.Walked.{Walked}
use Rattle.dap_tool.proofs.listing.list_lines.Given as goal

abbrev pub invariant-loop-rest : goal.invariant-loop-rest
invariant-loop-rest l = Walked l.fn.options l.bytes l.rest l.listing

abbrev pub decreases-loop-rest : goal.decreases-loop-rest
decreases-loop-rest l = length l.rest

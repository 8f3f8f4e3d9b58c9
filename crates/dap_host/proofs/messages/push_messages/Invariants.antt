use Rattle.std.proofs.Common.{length}
use Rattle.dap_host.proofs.MessageLemmas.{Lists}
use Rattle.dap_host.proofs.messages.push_messages.Given as goal

abbrev pub invariant-loop-body : goal.invariant-loop-body
invariant-loop-body l = Lists l.bytes l.fn.out.items l.out.items l.rest

abbrev pub decreases-loop-body : goal.decreases-loop-body
decreases-loop-body l = length l.rest

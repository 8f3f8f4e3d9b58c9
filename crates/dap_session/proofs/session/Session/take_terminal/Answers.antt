use Rattle.std.proofs.Common.{None}
use Rattle.dap_debuggee.specs.Shown.{refused}
use Rattle.dap_plan.specs.Taking.{after_terminal}
use Rattle.dap_session.proofs.Outboxes.{each-done}
use Rattle.dap_session.proofs.TakingRequests.{at_once_carries}
use Rattle.dap_session.proofs.session.Session.take_terminal.Goals as goal

pub returns-clause-carries : goal.returns-clause-carries
returns-clause-carries g c =
    rw c.if-success.false (each-done c.end_waiting.result _ _
    (λ made. at_once_carries g.D.Debuggee.follows (after_terminal c.args.self.now.session (refused None)) _ _ c.end_waiting.new.out.bytes made c.end_waiting.ensures.debuggee)
    c.end_waiting.ensures.made)

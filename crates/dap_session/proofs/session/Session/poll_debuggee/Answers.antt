use Rattle.dap_debuggee.specs.Shown.{to_poll, happened}
use Rattle.dap_plan.specs.Polling.{after_poll_reply}
use Rattle.dap_session.proofs.Outboxes.{each-done}
use Rattle.dap_session.proofs.TakingRequests.{asking-carries}
use Rattle.dap_session.proofs.session.Session.poll_debuggee.Goals as goal

pub returns-clause-carries : goal.returns-clause-carries
returns-clause-carries g c =
    each-done c.see.result _ _
    (λ made. asking-carries g.D.Debuggee.follows to_poll (after_poll_reply c.args.self.now.session) (happened c.in_ok-happening.happening) _ _ c.see.new.out.bytes (rw c.see.ensures.debuggee c.in_ok-happening.ensures.follows) (rw c.in_ok-happening.ensures.session at made))
    c.see.ensures.made

use Rattle.dap_debuggee.specs.Shown.{to_start}
use Rattle.dap_session.specs.PrivateReplies.{reply_of}
use Rattle.dap_plan.specs.Taking.{after_terminal}
use Rattle.dap_session.proofs.Outboxes.{each-done}
use Rattle.dap_session.proofs.TakingRequests.{asking-carries}
use Rattle.dap_session.proofs.session.Session.start_in_terminal.Goals as goal

pub returns-clause-carries : goal.returns-clause-carries
returns-clause-carries g c =
    each-done c.end_waiting.result _ _
    (λ made. asking-carries g.D.Debuggee.follows to_start (after_terminal c.args.self.now.session) (reply_of c.in_ok-reply.reply) _ _ c.end_waiting.new.out.bytes
    (rw c.end_waiting.ensures.debuggee c.in_ok-reply.ensures.follows)
    (rw c.in_ok-reply.ensures.session at made))
    c.end_waiting.ensures.made

use Rattle.dap_debuggee.specs.Shown.{to_pause}
use Rattle.dap_plan.specs.Handling.{by_reply}
use Rattle.dap_plan.specs.Plan.{after_answering}
use Rattle.dap_session.specs.PrivateReplies.{reply_of}
use Rattle.dap_session.proofs.Outboxes.{each-done}
use Rattle.dap_session.proofs.TakingRequests.{asking-carries}
use Rattle.dap_session.proofs.session.Session.pause.Goals as goal

pub returns-clause-carries : goal.returns-clause-carries
returns-clause-carries g c =
    each-done c.answer_by_reply.result _ _
    (λ made. asking-carries g.D.Debuggee.follows to_pause (λ last. after_answering c.args.request.now (by_reply c.args.self.now.session c.args.request.now last) c.args.self.now.session) (reply_of c.in_ok-reply.reply) _ _ c.answer_by_reply.new.out.bytes
    (rw c.answer_by_reply.ensures.debuggee c.in_ok-reply.ensures.follows)
    (rw c.in_ok-reply.ensures.session at made))
    c.answer_by_reply.ensures.made

use Rattle.std.proofs.Common.{w64}
use Rattle.std.proofs.lemmas.Int.{to_z-of_z}
use Rattle.dap_debuggee.specs.Shown.{to_resume, done, refused}
use Rattle.dap_plan.specs.Handling.{after_resume}
use Rattle.dap_session.proofs.Outboxes.{each-done}
use Rattle.dap_session.proofs.TakingRequests.{asking-carries}
use Rattle.dap_session.proofs.session.Session.resume.Goals as goal

pub returns-in-Done-clause-carries : goal.returns-in-Done-clause-carries
returns-in-Done-clause-carries g c =
    each-done c.go_on.result _ _
    (λ made. asking-carries g.D.Debuggee.follows (to_resume c.args.how c.args.thread) (after_resume c.args.how c.args.self.now.session c.args.request.now) done _ _ c.go_on.new.out.bytes
    (rw c.go_on.ensures.debuggee (let fits = c.ranges.thread in rw (c.in-Done.is, to_z-of_z w64 c.args.thread fits) at c.in_ok-ask_resume.ensures.follows))
    (rw c.in_ok-ask_resume.ensures.session at made))
    c.go_on.ensures.made

pub returns-in-Refused-clause-carries : goal.returns-in-Refused-clause-carries
returns-in-Refused-clause-carries g c =
    each-done c.fail_with.result _ _
    (λ made. asking-carries g.D.Debuggee.follows (to_resume c.args.how c.args.thread) (after_resume c.args.how c.args.self.now.session c.args.request.now) (refused c.in-Refused.why) _ _ c.fail_with.new.out.bytes
    (rw c.fail_with.ensures.debuggee (let fits = c.ranges.thread in rw (c.in-Refused.is, to_z-of_z w64 c.args.thread fits) at c.in_ok-ask_resume.ensures.follows))
    (rw c.in_ok-ask_resume.ensures.session at made))
    c.fail_with.ensures.made

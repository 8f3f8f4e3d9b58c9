use Rattle.std.proofs.Common.{rules, w64, SFits}
use Rattle.std.proofs.lemmas.Int.{to_z-of_z}
use Rattle.dap_plan.specs.Handling.{plan_for}
use Rattle.dap_session.proofs.TakingRequests.{at_once_carries}
use Rattle.dap_session.proofs.session.Session.serve.Goals as goal

pub returns-in_ok-terminate-in-Terminate-clause-carries : goal.returns-in_ok-terminate-in-Terminate-clause-carries
unfolding plan_for
returns-in_ok-terminate-in-Terminate-clause-carries g c = rw c.in-Terminate.is c.in_ok-terminate-in-Terminate.ensures.carries

pub returns-in_ok-resume-in-Resume-clause-carries : goal.returns-in_ok-resume-in-Resume-clause-carries
unfolding plan_for
returns-in_ok-resume-in-Resume-clause-carries g c = rw (c.in-Resume.is, ← c.thread_of.ensures) (let fits : SFits w64 c.thread_of.result = search rules in rw (to_z-of_z w64 c.thread_of.result fits) at c.in_ok-resume-in-Resume.ensures.carries)

pub returns-in_ok-pause-in-Pause-clause-carries : goal.returns-in_ok-pause-in-Pause-clause-carries
unfolding plan_for
returns-in_ok-pause-in-Pause-clause-carries g c = rw c.in-Pause.is c.in_ok-pause-in-Pause.ensures.carries

pub returns-in_ok-query-in-Query-clause-carries : goal.returns-in_ok-query-in-Query-clause-carries
unfolding plan_for
returns-in_ok-query-in-Query-clause-carries g c = rw c.in-Query.is (at_once_carries g.D.Debuggee.follows _ _ _ _ c.in_ok-query-in-Query.ensures.made c.query.ensures.debuggee)

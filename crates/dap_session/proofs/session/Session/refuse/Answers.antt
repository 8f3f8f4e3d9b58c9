use Rattle.dap_session.proofs.TakingRequests.{at_once_carries}
use Rattle.dap_session.proofs.session.Session.refuse.Goals as goal

pub returns-clause-carries : goal.returns-clause-carries
returns-clause-carries g c = at_once_carries g.D.Debuggee.follows _ _ _ _ c.in_ok-answer.ensures.made c.answer.ensures.debuggee

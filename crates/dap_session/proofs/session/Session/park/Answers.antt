use Rattle.dap_session.proofs.Sessions.{session-marked}
use Rattle.dap_session.proofs.session.Session.park.Goals as goal

pub invariant_of-self : goal.invariant_of-self
invariant_of-self g c = session-marked _ _ _ _ _ _ c.args.seq c.self.invariant c.park.ensures.mark c.park.ensures.orderly

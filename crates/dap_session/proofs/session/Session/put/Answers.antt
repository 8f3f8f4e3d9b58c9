use Rattle.dap_session.proofs.Sessions.{session-pushed}
use Rattle.dap_session.proofs.session.Session.put.Goals as goal

pub invariant_of-self : goal.invariant_of-self
invariant_of-self g c = session-pushed _ _ _ _ _ _ c.args.request c.self.invariant c.put_in.ensures.kept c.put_in.ensures.orderly

use Rattle.std.proofs.Common.{[], refl, sym, append-nil}
use Rattle.dap_session.proofs.Polls.{polls-none}
use Rattle.dap_session.proofs.session.Session.poll.Goals as goal

pub returns-clause-carries : goal.returns-clause-carries
returns-clause-carries g c = record { bytes = []; items = sym (append-nil _); holds = polls-none g.D.Debuggee.follows _ _ (cc) refl }

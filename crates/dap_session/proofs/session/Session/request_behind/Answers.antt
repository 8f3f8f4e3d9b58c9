use Rattle.dap_session.proofs.Outboxes.{holds-more}
use Rattle.dap_session.proofs.session.Session.request_behind.Goals as goal

pub returns-clause-holds : goal.returns-clause-holds
returns-clause-holds g c = holds-more c.ask.result _ _ _ _ _ _ c.in_ok-one.ensures.holds c.ask.ensures.writes

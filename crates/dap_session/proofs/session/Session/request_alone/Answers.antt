use Rattle.std.proofs.Common.{[]}
use Rattle.dap_session.proofs.Outboxes.{holds-more}
use Rattle.dap_session.proofs.session.Session.request_alone.Goals as goal

pub returns-clause-holds : goal.returns-clause-holds
returns-clause-holds g c = holds-more c.ask.result _ _ _ _ [] _ c.begin.ensures.holds c.ask.ensures.writes

use Rattle.std.proofs.Common.{◌≡◌, ◌∙◌, [], ap, arith}
use Rattle.dap_frame.specs.Settings.{Settings}
use Rattle.dap_outbox.specs.Outbox.{event_of}
use Rattle.dap_session.proofs.Outboxes.{holds-event}
use Rattle.dap_session.proofs.session.Session.event.Goals as goal

pub returns-clause-holds : goal.returns-clause-holds
returns-clause-holds g c =
    let all : c.body.result ≡ c.args.self.now.session.limits.body = c.body.ensures.value ∙ ap (λ (x : Settings). x.body) c.limits.ensures in
    holds-event c.emit.result _ _ _ _ _ [] (event_of c.args.event) _ all (omega arith) c.begin.ensures.holds c.emit.ensures.writes

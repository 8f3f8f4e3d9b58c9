use Rattle.std.proofs.Common.{◌≡◌, ◌≤◌, [], ap, ◌∙◌, arith}
use Rattle.dap_frame.specs.Settings.{Settings}
use Rattle.dap_session.proofs.TakingRequests.{each-ok}
use Rattle.dap_session.proofs.session.Session.own_request.Goals as goal

pub returns-clause-holds : goal.returns-clause-holds
returns-clause-holds g c =
    let is : c.body.result ≡ c.args.self.now.session.limits.body = c.body.ensures.value ∙ ap (λ (x : Settings). x.body) c.limits.ensures in
    let fits : c.body.result ≤ c.args.self.now.session.limits.body = omega arith in
    each-ok c.ask_named.result _ _ (λ ok w yes. (w yes).holds _ _ [] fits c.begin.ensures.holds) (rw c.as_str-command.ensures at c.ask_named.ensures.writes)

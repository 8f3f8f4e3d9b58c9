use Rattle.std.proofs.Common.{◌≡◌, Some, ap, subst, sym}
use Rattle.dap_plan.specs.SessionState.{SessionState}
use Rattle.dap_plan.proofs.ChangeResults.{value-told}
use Rattle.dap_session.proofs.session.Session.value_body.Goals as goal

pub returns : goal.returns
returns g c =
    let same = ap (λ (x : SessionState _). x.debuggee) c.self.view_is in
    value-told (g.D.Debuggee.shown c.args.self.now.debuggee) c.args.self.now.session c.args.wanted.now _ c.in-Some.holder c.as_str-name.result.now c.as_str-text.result.now c.in_ok-assigned.assigned (sym c.in-Some.ensures) c.as_str-name.ensures c.as_str-text.ensures
    (subst (λ d. (g.D.Debuggee.shown d).assigned c.in-Some.holder c.as_str-name.result.now c.as_str-text.result.now ≡ Some c.in_ok-assigned.assigned) same c.in_ok-assigned.ensures)

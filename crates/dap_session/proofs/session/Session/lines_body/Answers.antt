use Rattle.std.proofs.Common.{◌≡◌, Some, ap, subst, sym, ◌∙◌}
use Rattle.dap_plan.specs.Handling.{answers_to}
use Rattle.dap_plan.specs.SessionState.{SessionState}
use Rattle.dap_plan.proofs.ChangeResults.{lines-told}
use Rattle.dap_session.proofs.session.Session.lines_body.Goals as goal

pub returns : goal.returns
returns g c =
    let same = ap (λ (x : SessionState _). x.debuggee) c.self.view_is in
    lines-told c.args.self.now.session c.args.source.now c.args.lines.now _ c.in_ok-placed.placed.items c.in_ok-breakpoints.breakpoints.items
    (subst (λ d. (g.D.Debuggee.shown d).verify c.args.source.now c.args.asked.now ≡ Some c.in_ok-placed.placed.items) same c.in_ok-placed.ensures)
    (sym c.are_too_many.ensures ∙ c.if-are_too_many.false)
    (c.in_ok-breakpoints.ensures ∙ rw (c.options-options.ensures) (ap (λ n. answers_to c.args.self.now.session.options n c.args.lines.now c.in_ok-placed.placed.items) (c.next_id-first.ensures.next_id ∙ ap (λ (x : SessionState _). x.session.breakpoints.next_id) c.self.view_is)))

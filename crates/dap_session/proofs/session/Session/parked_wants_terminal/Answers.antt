use Rattle.std.proofs.Common.{◌≡◌, ◌&&◌, ◌∙◌, subst}
use Rattle.std.specs.List.{list_any}
use Rattle.dap_tables.specs.Outstanding.{entries, is_parked}
use Rattle.dap_plan.specs.Handling.{parked_wants_terminal, wants_terminal}
use Rattle.dap_plan.specs.SessionState.{SessionState}
use Rattle.dap_session.proofs.SeveralAnswers.{any-parked}
use Rattle.dap_session.proofs.session.Session.parked_wants_terminal.Goals as goal

pub returns : goal.returns
returns g c =
    let all : c.are_wanting.result ≡ list_any (λ r. is_parked r.seq c.self.inside.kept.kept && wants_terminal c.options.result r) (entries c.self.inside.kept.kept) = rw c.in_order.ensures.entries at c.are_wanting.ensures in
    let same = all ∙ any-parked (wants_terminal c.options.result) c.self.inside.kept.kept c.self.invariant.orderly.distinct in
    rw c.options.ensures at (subst (λ (x : SessionState _). c.are_wanting.result ≡ parked_wants_terminal c.options.result x.session.kept) c.self.view_is same)

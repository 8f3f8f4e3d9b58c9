use Rattle.std.proofs.Common.{◌≡◌, List, sym, ap, subst}
use Rattle.dap_tables.specs.Outstanding.{Kept}
use Rattle.dap_outbox.specs.Draft.{Draft}
use Rattle.dap_plan.specs.SessionState.{SessionState}
use Rattle.dap_outbox.specs.Outbox.{Holds}
use Rattle.dap_plan.proofs.Cancels.{Finds, names-starting, names-absent, finds, after_cancel-one, is-false}
use Rattle.dap_session.proofs.session.Session.cancel_responses.Goals as goal

pub returns-then-is_starting_in-clause-none : goal.returns-then-is_starting_in-clause-none
returns-then-is_starting_in-clause-none g c = λ no.
    rw (← c.self.view_is) (names-starting c.args.id c.self.inside.kept.kept c.in-Some.named.now c.self.invariant.orderly.distinct (sym c.if-is_starting_in.ensures) (sym c.in-Some.ensures.entry))

pub returns-in_default-clause-none : goal.returns-in_default-clause-none
returns-in_default-clause-none g c = λ no.
    rw (← c.self.view_is) (names-absent c.args.id c.self.inside.kept.kept (is-false _ (λ h. cc (c.in_default.ensures.found.1 h))))

pub returns-in-Err-clause-named : goal.returns-in-Err-clause-named
returns-in-Err-clause-named g c =
    let found = finds c.args.id c.self.inside.kept.kept c.in-Some.named.now c.self.invariant.orderly.distinct (sym c.if-is_starting_in.ensures) (sym c.in-Some.ensures.entry) in
    rw (← c.self.view_is) found.names

pub returns-in-Ok-clause-one : goal.returns-in-Ok-clause-one
returns-in-Ok-clause-one g c = λ yes.
    let found = finds c.args.id c.self.inside.kept.kept c.in-Some.named.now c.self.invariant.orderly.distinct (sym c.if-is_starting_in.ensures) (sym c.in-Some.ensures.entry) in
    rw (← c.self.view_is) found.names

pub returns-in-Ok-clause-holds : goal.returns-in-Ok-clause-holds
returns-in-Ok-clause-holds g c = λ yes.
    let found = finds c.args.id c.self.inside.kept.kept c.in-Some.named.now c.self.invariant.orderly.distinct (sym c.if-is_starting_in.ensures) (sym c.in-Some.ensures.entry) in
    let kept_is : c.self.inside.kept.kept ≡ c.args.self.now.session.kept = ap (λ (x : SessionState _). x.session.kept) c.self.view_is in
    let here : Finds c.args.id c.args.self.now.session.kept c.in-Some.named.now = subst (λ (ks : List Kept). Finds c.args.id ks c.in-Some.named.now) kept_is found in
    let drafts = after_cancel-one c.args.id c.args.request.now c.in-Some.named.now c.args.self.now.session here in
    subst (λ (ds : List Draft). Holds c.both_responses.new.out c.args.self.now.session.limits.body c.args.self.now.session.used ds) (sym drafts) c.in-Ok.ensures.holds

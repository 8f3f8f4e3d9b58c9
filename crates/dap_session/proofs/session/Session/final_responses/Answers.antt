use Rattle.std.proofs.Common.{◌≡◌, ◌+◌, ◌≤◌, true, length, sym, subst}
use Rattle.std.specs.Prelude.{◌==◌, not}
use Rattle.dap_body.specs.declared.failure.Failure.TheVariants.{Cancelled}
use Rattle.dap_tables.specs.Outstanding.{entries, contains_seq}
use Rattle.dap_outbox.specs.Draft.{failure}
use Rattle.dap_plan.specs.SessionState.{SessionState}
use Rattle.dap_outbox.specs.Several.{answer_where, WritesAll}
use Rattle.dap_session.proofs.Disconnects.{room-first, room-last, holds-after_disconnect}
use Rattle.dap_session.proofs.Outboxes.{each-done}
use Rattle.dap_session.proofs.session.Session.final_responses.Goals as goal

pub answer_chosen-requires : goal.answer_chosen-requires
answer_chosen-requires g c =
    let h : contains_seq c.args.request.now.seq c.self.inside.kept.kept ≡ true = subst (λ (x : SessionState _). contains_seq c.args.request.now.seq x.session.kept ≡ true) (sym c.self.view_is) c.requires.kept in
    let room : c.args.self.now.session.used + length c.self.inside.kept.kept ≤ c.args.self.now.session.limits.seq = subst (λ (x : SessionState _). c.args.self.now.session.used + length x.session.kept ≤ c.args.self.now.session.limits.seq) (sym c.self.view_is) c.requires.room in
    room-first c.args.request.now.seq c.self.inside.kept.kept _ _ c.args.self.now.session.used c.args.self.now.session.limits.seq c.self.invariant.orderly.distinct h
    c.begin.ensures.holds c.begin.ensures.last room

pub reply-requires : goal.reply-requires
reply-requires g c =
    let h : contains_seq c.args.request.now.seq c.self.inside.kept.kept ≡ true = subst (λ (x : SessionState _). contains_seq c.args.request.now.seq x.session.kept ≡ true) (sym c.self.view_is) c.requires.kept in
    let room : c.args.self.now.session.used + length c.self.inside.kept.kept ≤ c.args.self.now.session.limits.seq = subst (λ (x : SessionState _). c.args.self.now.session.used + length x.session.kept ≤ c.args.self.now.session.limits.seq) (sym c.self.view_is) c.requires.room in
    room-last c.args.request.now.seq c.self.inside.kept.kept _ _ _ c.args.self.now.session.used c.args.self.now.session.limits.seq c.self.invariant.orderly.distinct h
    c.begin.ensures.holds c.begin.ensures.last room c.in_ok-answer_chosen.ensures.writes

pub returns-clause-holds : goal.returns-clause-holds
returns-clause-holds g c =
    each-done c.reply.result _ _
    (λ w. holds-after_disconnect c.args.self.now.session c.args.request.now c.args.out.now c.answer_chosen.new.outbox _ _
    c.begin.ensures.holds
    (subst (λ (x : SessionState _). WritesAll c.args.out.now c.answer_chosen.new.outbox (answer_where (λ r. not (r.seq == c.args.request.now.seq)) (failure Cancelled) (entries x.session.kept))) c.self.view_is c.in_ok-answer_chosen.ensures.writes)
    w)
    c.reply.ensures.writes

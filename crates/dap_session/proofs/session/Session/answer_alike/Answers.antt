use Rattle.std.proofs.Common.{◌+◌, ◌≤◌, length, sym, subst}
use Rattle.dap_tables.specs.Outstanding.{entries, HasDistinctSeqs}
use Rattle.dap_outbox.specs.Waiting.{starting_ones, is_starting_in}
use Rattle.dap_plan.specs.SessionState.{SessionState}
use Rattle.dap_outbox.specs.Several.{answer_where, answer_by, WritesAll}
use Rattle.dap_session.proofs.Disconnects.{room-starting, within-alike}
use Rattle.dap_session.proofs.Outboxes.{each-done}
use Rattle.dap_session.proofs.session.Session.answer_alike.Goals as goal

pub answer_chosen-requires : goal.answer_chosen-requires
answer_chosen-requires g c =
    room-starting c.self.inside.kept.kept c.args.out.now.numbers.used c.args.out.now.numbers.last c.self.invariant.orderly.distinct
    (subst (λ (x : SessionState _). c.args.out.now.numbers.used + length (starting_ones x.session.kept) ≤ c.args.out.now.numbers.last) (sym c.self.view_is) c.requires.room)

pub returns-clause-writes : goal.returns-clause-writes
returns-clause-writes g c =
    let d : HasDistinctSeqs c.args.self.now.session.kept = subst (λ (x : SessionState _). HasDistinctSeqs x.session.kept) c.self.view_is c.self.invariant.orderly.distinct in
    each-done c.answer_chosen.result _ _
    (λ v. within-alike c.args.self.now.session (answer_by c.args.failure) c.args.out.now c.answer_chosen.new.outbox d
    (subst (λ (x : SessionState _). WritesAll c.args.out.now c.answer_chosen.new.outbox (answer_where (λ r. is_starting_in x.session.kept r) (answer_by c.args.failure) (entries x.session.kept))) c.self.view_is v))
    c.answer_chosen.ensures.writes

use Rattle.std.proofs.Common.{◌≡◌, ◌+◌, ◌≤◌, length, ap, ◌∙◌, sym, subst}
use Rattle.dap_frame.specs.Settings.{Settings}
use Rattle.dap_tables.specs.Outstanding.{entries, HasDistinctSeqs}
use Rattle.dap_outbox.specs.Waiting.{starting_ones, is_starting_in}
use Rattle.dap_plan.specs.SessionState.{SessionState}
use Rattle.dap_outbox.specs.Draft.{explained}
use Rattle.dap_outbox.specs.Several.{answer_where, chosen_of, explanations_fit, WritesWithin}
use Rattle.dap_outbox.specs.declared.several.Chosen.TheVariants.{Starting}
use Rattle.dap_session.proofs.Disconnects.{room-starting, within-explained, fits-starting}
use Rattle.dap_session.proofs.TakingRequests.{each-ok}
use Rattle.dap_session.proofs.session.Session.explain_parked.Goals as goal

pub explain_chosen-requires-clause-room : goal.explain_chosen-requires-clause-room
explain_chosen-requires-clause-room g c =
    room-starting c.self.inside.kept.kept c.args.out.now.numbers.used c.args.out.now.numbers.last c.self.invariant.orderly.distinct
    (subst (λ (x : SessionState _). c.args.out.now.numbers.used + length (starting_ones x.session.kept) ≤ c.args.out.now.numbers.last) (sym c.self.view_is) c.requires.room)

pub returns-clause-fits : goal.returns-clause-fits
returns-clause-fits g c =
    let d : HasDistinctSeqs c.args.self.now.session.kept = subst (λ (x : SessionState _). HasDistinctSeqs x.session.kept) c.self.view_is c.self.invariant.orderly.distinct in
    let n : c.seq-seq.result ≡ c.args.self.now.session.limits.seq = c.seq-seq.ensures.value ∙ ap (λ (x : Settings). x.seq) c.limits-limits.ensures in
    let m : c.body-most.result ≡ c.args.self.now.session.limits.body = c.body-most.ensures.value ∙ ap (λ (x : Settings). x.body) c.limits-limits.ensures in
    each-ok c.explain_chosen.result _ _
    (λ ok is. subst (λ (x : SessionState _). ok ≡ explanations_fit c.seq-seq.result c.body-most.result c.args.told.now (chosen_of Starting x.session.kept (entries x.session.kept))) c.self.view_is is ∙ fits-starting c.args.self.now.session c.seq-seq.result c.body-most.result c.args.told.now n m d)
    c.explain_chosen.ensures.fits

pub returns-clause-writes : goal.returns-clause-writes
returns-clause-writes g c =
    let d : HasDistinctSeqs c.args.self.now.session.kept = subst (λ (x : SessionState _). HasDistinctSeqs x.session.kept) c.self.view_is c.self.invariant.orderly.distinct in
    let m : c.body-most.result ≡ c.args.self.now.session.limits.body = c.body-most.ensures.value ∙ ap (λ (x : Settings). x.body) c.limits-limits.ensures in
    each-ok c.explain_chosen.result _ _
    (λ ok w yes. within-explained c.args.self.now.session c.body-most.result (explained c.args.told.now) c.args.out.now c.explain_chosen.new.outbox m d
    (subst (λ (x : SessionState _). WritesWithin c.body-most.result c.args.out.now c.explain_chosen.new.outbox (answer_where (λ r. is_starting_in x.session.kept r) (explained c.args.told.now) (entries x.session.kept))) c.self.view_is (w yes)))
    c.explain_chosen.ensures.writes

use Rattle.std.proofs.Common.{◌≡◌, ◌<◌, ap, ◌∙◌, sym, subst, ℕ, Some, None, Option, length, refl}
use Rattle.dap_tables.specs.Outstanding.{KeptRequests}
use Rattle.dap_tables.proofs.KeptLemmas.{rejected-without, rejected-all, length-without_one}
use Rattle.dap_outbox.specs.Waiting.{waits_to_start, not_starting_ones}
use Rattle.dap_outbox.proofs.WaitingLemmas.{first-starting}
use Rattle.dap_outbox.proofs.waiting.clear_starting.Goals as goal

pub loop-seq-preserved : goal.loop-seq-preserved
loop-seq-preserved c =
    let d = c.in_order.ensures.orderly.distinct in
    let found = sym (first-starting c.loop-seq.kept.kept d) ∙ sym (rw c.in_order.ensures.entries at c.first_starting.ensures) ∙ c.in-Some.is in
    record {
      room = ap (λ (t : KeptRequests). t.room) c.give_up.ensures ∙ c.loop-seq.invariant.room;
      kept = ap (λ (t : KeptRequests). not_starting_ones t.kept) c.give_up.ensures ∙ rejected-without waits_to_start c.in-Some.seq c.loop-seq.kept.kept d found ∙ c.loop-seq.invariant.kept;
    }

pub loop-seq-smaller : goal.loop-seq-smaller
loop-seq-smaller c =
    let d = c.in_order.ensures.orderly.distinct in
    let found = sym (first-starting c.loop-seq.kept.kept d) ∙ sym (rw c.in_order.ensures.entries at c.first_starting.ensures) ∙ c.in-Some.is in
    subst (λ (t : KeptRequests). length t.kept < length c.loop-seq.kept.kept) (sym c.give_up.ensures) (length-without_one waits_to_start c.in-Some.seq c.loop-seq.kept.kept found)

none_from : (o : Option ℕ) → ((seq : ℕ) → o ≡ Some seq → ⊥) → o ≡ None
none_from None never = refl
none_from (Some seq) never = absurd (never seq refl)

pub returns-clause-others : goal.returns-clause-others
returns-clause-others c =
    let d = c.in_order.ensures.orderly.distinct in
    let none = sym (first-starting c.loop-seq.kept.kept d) ∙ sym (rw c.in_order.ensures.entries at c.first_starting.ensures) ∙ none_from c.first_starting.result c.in_default.not-Some in
    let kept = sym (rejected-all waits_to_start c.loop-seq.kept.kept none) ∙ c.loop-seq.invariant.kept in
    λ i. record { room = c.loop-seq.invariant.room i; kept = kept i }

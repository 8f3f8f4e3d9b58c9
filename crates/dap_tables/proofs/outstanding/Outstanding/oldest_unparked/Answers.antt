use Rattle.std.proofs.Common.{◌∙◌, sym, subst, Option, ℕ, IfSome, IsTrue, false, ◌≡◌}
use Rattle.slab.specs.Slab.{get}
use Rattle.dap_tables.specs.Outstanding.{contains_seq, is_parked}
use Rattle.dap_tables.specs.PrivateOutstandingStore.{slots_at}
use Rattle.dap_tables.proofs.KeptLemmas.{contains_from_oldest, unparked_from_oldest}
use Rattle.dap_tables.proofs.SlotLemmas.{oldest_unparked-slots}
use Rattle.dap_tables.proofs.OutstandingLemmas.{kept_in}
use Rattle.dap_tables.proofs.outstanding.Outstanding.oldest_unparked.Goals as goal

pub returns-clause-oldest : goal.returns-clause-oldest
returns-clause-oldest c = rw (← c.self.view_is) (c.oldest.ensures ∙ oldest_unparked-slots (slots_at (λ key. get c.self.inside.slots key) c.self.inside.order.keys))

pub returns-clause-kept : goal.returns-clause-kept
returns-clause-kept c =
    subst (λ (o : Option ℕ). IfSome o (λ seq. IsTrue (contains_seq seq c.args.self.now.kept))) (sym (returns-clause-oldest c)) (contains_from_oldest c.args.self.now.kept)

pub returns-clause-unparked : goal.returns-clause-unparked
returns-clause-unparked c =
    rw (← c.self.view_is)
    (subst (λ (o : Option ℕ). IfSome o (λ seq. is_parked seq (kept_in c.self.inside.slots c.self.inside.order.keys) ≡ false))
    (sym (c.oldest.ensures ∙ oldest_unparked-slots (slots_at (λ key. get c.self.inside.slots key) c.self.inside.order.keys)))
    (unparked_from_oldest (kept_in c.self.inside.slots c.self.inside.order.keys) c.self.invariant.orderly.distinct))

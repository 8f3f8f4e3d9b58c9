use Rattle.std.proofs.Common.{ap, ◌∙◌, sym, Option, ℕ}
use Rattle.slab.specs.Slab.{get}
use Rattle.dap_tables.specs.PrivateOutstandingStore.{slot_at, marked_in}
use Rattle.dap_tables.proofs.KeptLemmas.{contains_from_is_parked}
use Rattle.dap_tables.proofs.OutstandingLemmas.{parked-stored}
use Rattle.dap_tables.proofs.outstanding.Outstanding.is_parked.Goals as goal

pub returns-clause-parked : goal.returns-clause-parked
returns-clause-parked c =
    rw (← c.self.view_is)
    (c.is_parked_at.ensures
    ∙ ap (λ (o : Option ℕ). marked_in (slot_at (λ key. get c.self.inside.slots key) o)) c.get.ensures
    ∙ sym (parked-stored c.self.inside.room c.self.inside.slots c.self.inside.index c.self.inside.order c.self.invariant c.args.seq))

pub returns-clause-kept : goal.returns-clause-kept
returns-clause-kept c = λ marked. contains_from_is_parked c.args.seq c.args.self.now.kept (sym (returns-clause-parked c) ∙ marked)

use Rattle.std.proofs.Common.{◌∙◌, sym, subst, ℕ, ◌≤◌, length}
use Rattle.slab.specs.Slab.{get}
use Rattle.dap_tables.specs.PrivateOutstandingStore.{slots_at}
use Rattle.dap_tables.proofs.SlotLemmas.{parked_ones-slots, parked-few}
use Rattle.dap_tables.proofs.outstanding.Outstanding.parked.Goals as goal

pub returns-clause-parked : goal.returns-clause-parked
returns-clause-parked c = rw (← c.self.view_is) (c.parked.ensures ∙ parked_ones-slots (slots_at (λ key. get c.self.inside.slots key) c.self.inside.order.keys))

pub returns-clause-bound : goal.returns-clause-bound
returns-clause-bound c = subst (λ (n : ℕ). n ≤ length c.args.self.now.kept) (sym (returns-clause-parked c)) (parked-few c.args.self.now.kept)

use Rattle.std.proofs.Common.{◌∙◌, ap, ℕ, List, map}
use Rattle.slab.specs.Slab.{get}
use Rattle.dap_tables.specs.declared.slot.Slot.{Slot}
use Rattle.dap_tables.specs.PrivateOutstandingStore.{slots_at}
use Rattle.dap_tables.proofs.SlotLemmas.{entries-slots}
use Rattle.dap_tables.proofs.outstanding.Outstanding.in_order.Goals as goal

pub returns-clause-entries : goal.returns-clause-entries
returns-clause-entries c =
    rw (← c.self.view_is)
    (ap (λ (keys : List ℕ). map (λ (slot : Slot). slot.entry) (slots_at (λ key. get c.self.inside.slots key) keys)) c.first.ensures.first
    ∙ entries-slots (slots_at (λ key. get c.self.inside.slots key) c.self.inside.order.keys))

use Rattle.std.proofs.Common.{◌≡◌, IfSome, not, length}
use Rattle.std.specs.Prelude.{find}
use Rattle.slab.specs.Slab.{get}
use Rattle.dap_tables.specs.Arrivals.{IsIn, keys_from}
use Rattle.dap_tables.specs.PrivateOutstandingStore.{slots_at}
use Rattle.dap_tables.proofs.slot.oldest.Given as goal

abbrev pub invariant-loop-at : goal.invariant-loop-at
invariant-loop-at l = record {
  among : IfSome l.at (λ key. IsIn key l.order.keys);
  rest : find (λ slot. not slot.parked) (slots_at (λ key. get l.slots key) (keys_from l.at l.order.keys)) ≡ find (λ slot. not slot.parked) (slots_at (λ key. get l.slots key) l.order.keys);
}

abbrev pub decreases-loop-at : goal.decreases-loop-at
decreases-loop-at l = length (keys_from l.at l.order.keys)

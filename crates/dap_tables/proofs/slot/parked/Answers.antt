use Rattle.std.proofs.Common.{◌≡◌, ◌+◌, ap, subst, ℕ, List, Option, Some, IfSome, Bool, arith, not}
use Rattle.std.specs.List.{count_by}
use Rattle.slab.specs.Slab.{get}
use Rattle.dap_tables.specs.declared.slot.Slot.{Slot}
use Rattle.dap_tables.specs.Arrivals.{IsIn, keys_from}
use Rattle.dap_tables.specs.PrivateOutstandingStore.{slots_at}
use Rattle.dap_tables.proofs.KeyLemmas.{count-here, length-slots_at}
use Rattle.dap_tables.proofs.SlotLemmas.{count_both}
use Rattle.dap_tables.proofs.slot.parked.Goals as goal

pub loop-at-init : goal.loop-at-init
loop-at-init c =
    let g : ℕ → Option Slot = λ key. get c.args.slots.now key in
    let keys = c.args.order.now.keys in
    let both = count_both (slots_at g keys) in
    let long = length-slots_at g keys c.requires in
    let all : count_by (λ (slot : Slot). not slot.parked) (slots_at g (keys_from c.first-at.result keys)) ≡ count_by (λ (slot : Slot). not slot.parked) (slots_at g keys) = ap (λ (ks : List ℕ). count_by (λ (slot : Slot). not slot.parked) (slots_at g ks)) c.first-at.ensures.first in
    let len = c.len-count.ensures in
    record { among = c.first-at.ensures.among; rest = omega arith }

pub overflow_sub-count : goal.overflow_sub-count
overflow_sub-count c =
    let g : ℕ → Option Slot = λ key. get c.args.slots.now key in
    let p : Slot → Bool = λ s. not s.parked in
    let keys = c.args.order.now.keys in
    let there : IsIn c.in-Some.key keys = subst (λ (o : Option ℕ). IfSome o (λ key. IsIn key keys)) c.in-Some.is c.loop-at.invariant.among in
    let rest : c.loop-at.count ≡ count_by (λ (s : Slot). s.parked) (slots_at g keys) + count_by p (slots_at g (keys_from (Some c.in-Some.key) keys)) =
    subst (λ (o : Option ℕ). c.loop-at.count ≡ count_by (λ (s : Slot). s.parked) (slots_at g keys) + count_by p (slots_at g (keys_from o keys))) c.in-Some.is c.loop-at.invariant.rest in
    let one = count-here g p keys c.in-Some.key c.index.result.now there c.index.ensures (ap (λ b. not b) c.if-not-index.true) in
    omega arith

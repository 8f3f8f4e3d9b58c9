use Rattle.std.proofs.Common.{◌≡◌, ap, ◌∙◌, sym, refl, List, Some, None}
use Rattle.slab.specs.Slab.{with_value}
use Rattle.slab.proofs.SlabLemmas.{Updates-with_value}
use Rattle.dap_tables.specs.Outstanding.{Kept, with_mark}
use Rattle.dap_tables.specs.PrivateOutstandingStore.{IsStored}
use Rattle.dap_tables.specs.SeqIndex.{key_for}
use Rattle.dap_tables.proofs.KeptLemmas.{with_mark-absent}
use Rattle.dap_tables.proofs.OutstandingLemmas.{kept_in, slot_found, contains-none, mark-kept, stored-mark, count-written}
use Rattle.dap_tables.proofs.outstanding.Outstanding.set_mark.Goals as goal
use Rattle.dap_tables.proofs.outstanding.Outstanding.set_mark.Goals.{After-index_mut}

pub index_mut-requires : goal.index_mut-requires
index_mut-requires c =
    slot_found c.self.inside.room c.self.inside.slots c.self.inside.index c.self.inside.order c.self.invariant c.args.seq c.in-Some.key (sym c.get.ensures ∙ c.in-Some.is)

stored : (c : After-index_mut) → IsStored c.self.inside.room (with_value c.self.inside.slots c.in-Some.key (record c.index_mut.result.now { parked = c.args.parked })) c.self.inside.index c.self.inside.order
stored c =
    let slot = c.index_mut.result.now in
    let new = record slot { parked = c.args.parked } in
    let at_key : key_for c.args.seq c.self.inside.index.pairs ≡ Some c.in-Some.key = sym c.get.ensures ∙ c.in-Some.is in
    let there = slot_found c.self.inside.room c.self.inside.slots c.self.inside.index c.self.inside.order c.self.invariant c.args.seq c.in-Some.key at_key in
    stored-mark c.self.inside.room c.self.inside.slots c.self.inside.index c.self.inside.order c.self.invariant
    (with_value c.self.inside.slots c.in-Some.key new) c.args.seq c.in-Some.key slot c.args.parked at_key c.index_mut.ensures.value
    (Updates-with_value c.self.inside.slots c.in-Some.key new there)
    (count-written c.self.inside.slots.slots c.in-Some.key slot new c.index_mut.ensures.value) refl

list : (c : After-index_mut) → kept_in (with_value c.self.inside.slots c.in-Some.key (record c.index_mut.result.now { parked = c.args.parked })) c.self.inside.order.keys ≡ with_mark c.args.seq c.args.parked (kept_in c.self.inside.slots c.self.inside.order.keys)
list c =
    let slot = c.index_mut.result.now in
    let new = record slot { parked = c.args.parked } in
    let at_key : key_for c.args.seq c.self.inside.index.pairs ≡ Some c.in-Some.key = sym c.get.ensures ∙ c.in-Some.is in
    let there = slot_found c.self.inside.room c.self.inside.slots c.self.inside.index c.self.inside.order c.self.invariant c.args.seq c.in-Some.key at_key in
    mark-kept c.self.inside.room c.self.inside.slots c.self.inside.index c.self.inside.order c.self.invariant
    (with_value c.self.inside.slots c.in-Some.key new) c.args.seq c.in-Some.key slot c.args.parked at_key c.index_mut.ensures.value
    (Updates-with_value c.self.inside.slots c.in-Some.key new there)

pub invariant_of-self : goal.invariant_of-self
invariant_of-self c = stored (goal.at.invariant_of-self c).After-index_mut

pub returns-in-Some-clause-orderly : goal.returns-in-Some-clause-orderly
returns-in-Some-clause-orderly c = (stored (goal.at.returns-in-Some-clause-orderly c).After-index_mut).orderly

pub returns-in-Some-clause-mark : goal.returns-in-Some-clause-mark
returns-in-Some-clause-mark c =
    let w = (goal.at.returns-in-Some-clause-mark c).After-index_mut in
    rw (← c.self.view_is) (ap (λ (kept : List Kept). record { room = w.self.inside.room; kept = kept }) (list w))

pub returns-in-None-clause-mark : goal.returns-in-None-clause-mark
returns-in-None-clause-mark c =
    let none : key_for c.args.seq c.self.inside.index.pairs ≡ None = sym c.get.ensures ∙ c.in-None.is in
    let absent = contains-none c.self.inside.room c.self.inside.slots c.self.inside.index c.self.inside.order c.self.invariant c.args.seq none in
    rw (← c.self.view_is) (ap (λ (kept : List Kept). record { room = c.self.inside.room; kept = kept }) (sym (with_mark-absent c.args.seq c.args.parked (kept_in c.self.inside.slots c.self.inside.order.keys) absent)))

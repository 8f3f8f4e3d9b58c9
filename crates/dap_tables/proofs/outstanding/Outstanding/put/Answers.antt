use Rattle.std.proofs.Common.{◌≡◌, ◌<◌, ◌++◌, [], ◌∷◌, ap, ◌∙◌, sym, arith, List, length, false}
use Rattle.dap_tables.specs.Arrivals.{Order}
use Rattle.dap_tables.specs.Outstanding.{Kept, kept_unparked, contains_seq, entry_with, without}
use Rattle.dap_tables.specs.PrivateOutstandingStore.{IsStored}
use Rattle.dap_tables.proofs.KeptLemmas.{entry_with-push, without-push, contains_seq-push}
use Rattle.dap_tables.proofs.OutstandingLemmas.{kept_in, absent-stored, room_left, put-kept, stored-put}
use Rattle.dap_tables.proofs.outstanding.Outstanding.put.Goals as goal
use Rattle.dap_tables.proofs.outstanding.Outstanding.put.Goals.{After-push}

pub insert_reserved-key-requires : goal.insert_reserved-key-requires
insert_reserved-key-requires c =
    let few = room_left c.self.inside.room c.self.inside.slots c.self.inside.index c.self.inside.order c.self.invariant c.is_full.result (rw (← c.self.view_is) at c.is_full.ensures).1 c.if-is_full.false in
    let counted = c.self.invariant.counted in
    let fit = c.self.invariant.slots_fit in
    omega arith

pub insert-requires-clause-new : goal.insert-requires-clause-new
insert-requires-clause-new c =
    absent-stored c.self.inside.room c.self.inside.slots c.self.inside.index c.self.inside.order c.self.invariant c.args.entry.seq (rw (← c.self.view_is) at (sym c.contains.ensures.contains ∙ c.if-contains.false))

pub insert-requires-clause-room : goal.insert-requires-clause-room
insert-requires-clause-room c =
    let few = room_left c.self.inside.room c.self.inside.slots c.self.inside.index c.self.inside.order c.self.invariant c.is_full.result (rw (← c.self.view_is) at c.is_full.ensures).1 c.if-is_full.false in
    let listed = c.self.invariant.listed in
    let fit = c.self.invariant.pairs_fit in
    omega arith

pub push-requires-clause-room : goal.push-requires-clause-room
push-requires-clause-room c =
    let few = room_left c.self.inside.room c.self.inside.slots c.self.inside.index c.self.inside.order c.self.invariant c.is_full.result (rw (← c.self.view_is) at c.is_full.ensures).1 c.if-is_full.false in
    let limit = c.self.invariant.keys_fit in
    let fit = c.self.invariant.slots_fit in
    omega arith

absent : (c : After-push) → contains_seq c.args.entry.seq (kept_in c.self.inside.slots c.self.inside.order.keys) ≡ false
absent c = rw (← c.self.view_is) at (sym c.contains.ensures.contains ∙ c.if-contains.false)

few : (c : After-push) → length c.self.inside.order.keys < c.self.inside.room
few c = room_left c.self.inside.room c.self.inside.slots c.self.inside.index c.self.inside.order c.self.invariant c.is_full.result (rw (← c.self.view_is) at c.is_full.ensures).1 c.if-is_full.false

stored : (c : After-push) → IsStored c.self.inside.room c.insert_reserved-key.new.self c.insert.new.self c.push.new.self
stored c =
    stored-put c.self.inside.room c.self.inside.slots c.self.inside.index c.self.inside.order c.self.invariant
    c.insert_reserved-key.new.self c.insert.new.self c.push.new.self c.insert_reserved-key.result c.args.entry
    (few c) (absent c) c.insert_reserved-key.ensures.was_vacant c.insert_reserved-key.ensures.updates
    c.insert_reserved-key.ensures.len c.insert_reserved-key.ensures.capacity c.insert.ensures.gets c.insert.ensures.len c.insert.ensures.room c.push.ensures

list : (c : After-push) → kept_in c.insert_reserved-key.new.self c.push.new.self.keys ≡ kept_in c.self.inside.slots c.self.inside.order.keys ++ kept_unparked c.args.entry ∷ []
list c =
    ap (λ (order : Order). kept_in c.insert_reserved-key.new.self order.keys) c.push.ensures
    ∙ put-kept c.self.inside.room c.self.inside.slots c.self.inside.index c.self.inside.order c.self.invariant
    c.insert_reserved-key.new.self c.insert.new.self c.push.new.self c.insert_reserved-key.result c.args.entry
    (few c) (absent c) c.insert_reserved-key.ensures.was_vacant c.insert_reserved-key.ensures.updates

pub invariant_of-self : goal.invariant_of-self
invariant_of-self c = stored (goal.at.invariant_of-self c).After-push

pub returns-clause-orderly : goal.returns-clause-orderly
returns-clause-orderly c = (stored (goal.at.returns-clause-orderly c).After-push).orderly

pub returns-clause-ok : goal.returns-clause-ok
returns-clause-ok c =
    let w = (goal.at.returns-clause-ok c).After-push in
    rw (← c.self.view_is) (ap (λ (kept : List Kept). record { room = w.self.inside.room; kept = kept }) (list w))

pub returns-clause-found : goal.returns-clause-found
returns-clause-found c =
    let w = (goal.at.returns-clause-found c).After-push in
    ap (λ (kept : List Kept). entry_with w.args.entry.seq kept) (list w)
    ∙ entry_with-push (kept_in w.self.inside.slots w.self.inside.order.keys) (kept_unparked w.args.entry) (absent w)

pub returns-clause-kept : goal.returns-clause-kept
returns-clause-kept c =
    let w = (goal.at.returns-clause-kept c).After-push in
    ap (λ (kept : List Kept). contains_seq w.args.entry.seq kept) (list w)
    ∙ contains_seq-push (kept_in w.self.inside.slots w.self.inside.order.keys) (kept_unparked w.args.entry)

pub returns-clause-undone : goal.returns-clause-undone
returns-clause-undone c =
    let w = (goal.at.returns-clause-undone c).After-push in
    rw (← c.self.view_is)
    (ap (λ (kept : List Kept). without w.args.entry.seq kept) (list w)
    ∙ without-push (kept_in w.self.inside.slots w.self.inside.order.keys) (kept_unparked w.args.entry) (absent w))

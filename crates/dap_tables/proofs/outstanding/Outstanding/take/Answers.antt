use Rattle.std.proofs.Common.{◌≡◌, ap, ◌∙◌, sym, refl, ℕ, List, Some, None, Option, false, true, Bool, IsTrue, IsSome, subst, IfSome}
use Rattle.std.specs.Option.{option_map}
use Rattle.slab.specs.Slab.{get}
use Rattle.dap_tables.specs.Arrivals.{Order}
use Rattle.dap_tables.specs.declared.entry.Entry.{Entry}
use Rattle.dap_tables.specs.declared.slot.Slot.{Slot}
use Rattle.dap_tables.specs.Outstanding.{Kept, contains_seq, entry_with, without}
use Rattle.dap_tables.specs.PrivateOutstandingStore.{IsStored, slot_at}
use Rattle.dap_tables.proofs.KeptLemmas.{contains_seq-without, without-absent, entry_with-absent, entry_with-seq}
use Rattle.dap_tables.proofs.OutstandingLemmas.{kept_in, key_found, slot_found, entry-stored, contains-none, contains-some, take-kept, stored-take}
use Rattle.dap_tables.proofs.outstanding.Outstanding.take.Goals as goal
use Rattle.dap_tables.proofs.outstanding.Outstanding.take.Goals.{After-remove-3}

-- ---- the request is not kept

pub returns-in_err-key-clause-entry : goal.returns-in_err-key-clause-entry
returns-in_err-key-clause-entry c =
    let absent = contains-none c.self.inside.room c.self.inside.slots c.self.inside.index c.self.inside.order c.self.invariant c.args.seq (sym c.remove.ensures.key ∙ c.in_err-key.was) in
    rw (← c.self.view_is) (c.from_residual.ensures ∙ sym (entry_with-absent c.args.seq (kept_in c.self.inside.slots c.self.inside.order.keys) absent))

pub returns-in_err-key-clause-others : goal.returns-in_err-key-clause-others
returns-in_err-key-clause-others c =
    let absent = contains-none c.self.inside.room c.self.inside.slots c.self.inside.index c.self.inside.order c.self.invariant c.args.seq (sym c.remove.ensures.key ∙ c.in_err-key.was) in
    rw (← c.self.view_is) (ap (λ (kept : List Kept). record { room = c.self.inside.room; kept = kept }) (sym (without-absent c.args.seq (kept_in c.self.inside.slots c.self.inside.order.keys) absent)))

pub returns-in_err-key-clause-gone : goal.returns-in_err-key-clause-gone
returns-in_err-key-clause-gone c = contains-none c.self.inside.room c.self.inside.slots c.self.inside.index c.self.inside.order c.self.invariant c.args.seq (sym c.remove.ensures.key ∙ c.in_err-key.was)

neither : (o : Option Entry) (b : Bool) → o ≡ None → b ≡ false → (IsSome o → IsTrue b) × (IsTrue b → IsSome o)
neither None false h e = (λ some. some, λ some. some)
neither None true h e = cc
neither (Some x) b h e = cc

pub returns-in_err-key-clause-found : goal.returns-in_err-key-clause-found
returns-in_err-key-clause-found c =
    let absent = contains-none c.self.inside.room c.self.inside.slots c.self.inside.index c.self.inside.order c.self.invariant c.args.seq (sym c.remove.ensures.key ∙ c.in_err-key.was) in
    rw (← c.self.view_is) (neither c.from_residual.result (contains_seq c.args.seq (kept_in c.self.inside.slots c.self.inside.order.keys)) c.from_residual.ensures absent)

-- ---- the request is kept

pub remove-requires-2 : goal.remove-requires-2
remove-requires-2 c = (key_found c.self.inside.room c.self.inside.slots c.self.inside.index c.self.inside.order c.self.invariant c.args.seq c.in_ok-key.key (sym c.remove.ensures.key ∙ c.in_ok-key.was)).0

pub remove-requires-3 : goal.remove-requires-3
remove-requires-3 c = slot_found c.self.inside.room c.self.inside.slots c.self.inside.index c.self.inside.order c.self.invariant c.args.seq c.in_ok-key.key (sym c.remove.ensures.key ∙ c.in_ok-key.was)

stored : (c : After-remove-3) → IsStored c.self.inside.room c.remove-3.new.self c.remove.new.self c.remove-2.new.self
stored c =
    stored-take c.self.inside.room c.self.inside.slots c.self.inside.index c.self.inside.order c.self.invariant
    c.remove-3.new.self c.remove.new.self c.remove-2.new.self c.args.seq c.in_ok-key.key (sym c.remove.ensures.key ∙ c.in_ok-key.was)
    c.remove-3.ensures.updates c.remove-3.ensures.len c.remove-3.ensures.capacity c.remove.ensures.gets c.in_ok-key.ensures.len c.remove.ensures.room
    c.remove-2.ensures.shorter c.remove-2.ensures.others

list : (c : After-remove-3) → kept_in c.remove-3.new.self c.remove-2.new.self.keys ≡ without c.args.seq (kept_in c.self.inside.slots c.self.inside.order.keys)
list c =
    ap (λ (order : Order). kept_in c.remove-3.new.self order.keys) c.remove-2.ensures.others
    ∙ take-kept c.self.inside.room c.self.inside.slots c.self.inside.index c.self.inside.order c.self.invariant
    c.remove-3.new.self c.remove.new.self c.remove-2.new.self c.args.seq c.in_ok-key.key (sym c.remove.ensures.key ∙ c.in_ok-key.was)
    c.remove-3.ensures.updates

entry : (c : After-remove-3) → ◌≡◌ {A = Option Entry} (Some c.remove-3.result.entry) (entry_with c.args.seq (kept_in c.self.inside.slots c.self.inside.order.keys))
entry c =
    sym (entry-stored c.self.inside.room c.self.inside.slots c.self.inside.index c.self.inside.order c.self.invariant c.args.seq
    ∙ ap (λ (o : Option ℕ). option_map (λ (slot : Slot). slot.entry) (slot_at (λ key. get c.self.inside.slots key) o)) (sym c.remove.ensures.key ∙ c.in_ok-key.was)
    ∙ ap (λ (o : Option Slot). option_map (λ (slot : Slot). slot.entry) o) c.remove-3.ensures.value)

pub invariant_of-self-2 : goal.invariant_of-self-2
invariant_of-self-2 c = stored (goal.at.invariant_of-self-2 c).After-remove-3

pub returns-clause-orderly : goal.returns-clause-orderly
returns-clause-orderly c = (stored (goal.at.returns-clause-orderly c).After-remove-3).orderly

pub returns-clause-entry : goal.returns-clause-entry
returns-clause-entry c = rw (← c.self.view_is) (entry (goal.at.returns-clause-entry c).After-remove-3)

pub returns-clause-others : goal.returns-clause-others
returns-clause-others c =
    let w = (goal.at.returns-clause-others c).After-remove-3 in
    rw (← c.self.view_is) (ap (λ (kept : List Kept). record { room = w.self.inside.room; kept = kept }) (list w))

pub returns-clause-gone : goal.returns-clause-gone
returns-clause-gone c =
    let w = (goal.at.returns-clause-gone c).After-remove-3 in
    ap (λ (kept : List Kept). contains_seq w.args.seq kept) (list w) ∙ contains_seq-without w.args.seq (kept_in w.self.inside.slots w.self.inside.order.keys)

pub returns-clause-found : goal.returns-clause-found
returns-clause-found c =
    let kept = contains-some c.self.inside.room c.self.inside.slots c.self.inside.index c.self.inside.order c.self.invariant c.args.seq c.in_ok-key.key (sym c.remove.ensures.key ∙ c.in_ok-key.was) in
    rw (← c.self.view_is) (λ some. kept, λ there. refl)

pub returns-clause-seq : goal.returns-clause-seq
returns-clause-seq c =
    let w = (goal.at.returns-clause-seq c).After-remove-3 in
    subst (λ (o : Option Entry). IfSome o (λ e. e.seq ≡ c.args.seq)) (sym (entry w)) (entry_with-seq w.args.seq (kept_in w.self.inside.slots w.self.inside.order.keys))

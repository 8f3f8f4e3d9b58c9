use Rattle.std.proofs.Common.{◌≡◌, ap, ◌∙◌, sym, subst, ℕ, Option, Some, IfSome, Bool, not}
use Rattle.std.specs.Prelude.{find}
use Rattle.std.specs.Option.{option_map}
use Rattle.slab.specs.Slab.{get}
use Rattle.dap_tables.specs.declared.slot.Slot.{Slot}
use Rattle.dap_tables.specs.Arrivals.{IsIn, keys_from}
use Rattle.dap_tables.specs.PrivateOutstandingStore.{slots_at}
use Rattle.dap_tables.proofs.KeyLemmas.{find-here}
use Rattle.dap_tables.proofs.slot.oldest.Goals as goal

pub returns-then-not-slot : goal.returns-then-not-slot
returns-then-not-slot c =
    let g : ℕ → Option Slot = λ key. get c.args.slots.now key in
    let slot = c.index-slot.result.now in
    let p : Slot → Bool = λ s. not s.parked in
    let there : IsIn c.in-Some.key c.args.order.now.keys = subst (λ (o : Option ℕ). IfSome o (λ key. IsIn key c.args.order.now.keys)) c.in-Some.is c.loop-at.invariant.among in
    let rest : find p (slots_at g (keys_from (Some c.in-Some.key) c.args.order.now.keys)) ≡ find p (slots_at g c.args.order.now.keys) =
    subst (λ (o : Option ℕ). find p (slots_at g (keys_from o c.args.order.now.keys)) ≡ find p (slots_at g c.args.order.now.keys)) c.in-Some.is c.loop-at.invariant.rest in
    let found = find-here g p c.args.order.now.keys c.in-Some.key slot there c.index-slot.ensures ((ap not c.if-not-slot.true)) in
    ap (λ (o : Option Slot). option_map (λ (s : Slot). s.entry.seq) o) (sym found ∙ rest)

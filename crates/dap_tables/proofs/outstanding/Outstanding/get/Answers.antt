use Rattle.std.proofs.Common.{◌≡◌, ap, ◌∙◌, sym, subst, Option, IfSome, ℕ}
use Rattle.std.specs.Prelude.{is_some}
use Rattle.std.specs.Option.{option_map}
use Rattle.slab.specs.Slab.{get}
use Rattle.dap_tables.specs.declared.entry.Entry.{Entry}
use Rattle.dap_tables.specs.declared.slot.Slot.{Slot}
use Rattle.dap_tables.specs.PrivateOutstandingStore.{slot_at}
use Rattle.dap_tables.proofs.KeptLemmas.{contains_from_entry_with, entry_with_from_contains, entry_with-seq}
use Rattle.dap_tables.proofs.OutstandingLemmas.{entry-stored}
use Rattle.dap_tables.proofs.Lists.{is_some-copied, IfSome-copied}
use Rattle.dap_tables.proofs.outstanding.Outstanding.get.Goals as goal

pub returns-clause-entry : goal.returns-clause-entry
returns-clause-entry c =
    rw (← c.self.view_is)
    (c.entry_at.ensures
    ∙ ap (λ (o : Option ℕ). option_map (λ (slot : Slot). slot.entry) (slot_at (λ key. get c.self.inside.slots key) o)) c.get.ensures
    ∙ sym (entry-stored c.self.inside.room c.self.inside.slots c.self.inside.index c.self.inside.order c.self.invariant c.args.seq))

pub returns-clause-found : goal.returns-clause-found
returns-clause-found c =
    let same = sym (is_some-copied c.entry_at.result) ∙ ap (λ (o : Option Entry). is_some o) (returns-clause-entry c) in
    (λ found. contains_from_entry_with c.args.seq c.args.self.now.kept (sym same ∙ found), λ kept. same ∙ entry_with_from_contains c.args.seq c.args.self.now.kept kept)

pub returns-clause-seq : goal.returns-clause-seq
returns-clause-seq c =
    IfSome-copied (λ (e : Entry). e.seq ≡ c.args.seq) c.entry_at.result
    (subst (λ (o : Option Entry). IfSome o (λ e. e.seq ≡ c.args.seq)) (sym (returns-clause-entry c)) (entry_with-seq c.args.seq c.args.self.now.kept))

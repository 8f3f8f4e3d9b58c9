use Rattle.std.proofs.Common.{◌≡◌, true, IfOk, option_map, ap, ◌∙◌, subst, arith}
use Rattle.std.specs.Prelude.{is_some}
use Rattle.serde_json.specs.Find.{as_object}
use Rattle.serde_json.specs.View.{view}
use Rattle.dap_json.specs.Lent.{lent_data}
use Rattle.dap_shape.specs.Faults.{rows_fault}
use Rattle.dap_shape.specs.Seen.{fault_seen}
use Rattle.dap_shape.proofs.ShapeLemmas.{found_in, weight-tree_at, item_below, fault_of-object}
use Rattle.dap_shape.proofs.walking.+shape.Goals as goal

pub items_fault-fault_of-requires : goal.items_fault-fault_of-requires
items_fault-fault_of-requires t c =
    let below = item_below c.deref-item-items.result.now c.args.items.now.items c.loop-place.place c.item-item.result c.item-item.is c.deref-item-items.ensures.value c.loop-place-test.true in
    (omega (arith, below, c.decreases), tt)

pub member_fault-held_fault-requires : goal.member_fault-held_fault-requires
member_fault-held_fault-requires t c =
    let below = weight-tree_at c.key.result.now (view c.args.value.now) (lent_data c.present.result) c.present.ensures in
    (omega (arith, below, c.decreases), tt)

pub object_fault-returns : goal.object_fault-returns
object_fault-returns t c =
    let d = view c.args.value.now in
    let is : is_some (as_object d) ≡ true = cc in
    subst (λ z. IfOk c.fields_fault.result (λ found. option_map fault_seen found ≡ z)) (ap (rows_fault (found_in d)) c.fields.ensures ∙ fault_of-object c.args.name d is) c.fields_fault.ensures

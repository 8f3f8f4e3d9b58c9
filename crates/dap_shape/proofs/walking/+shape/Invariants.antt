use Rattle.std.proofs.Common.{◌≡◌, ◌+◌, ◌*◌, drop}
use Rattle.std.specs.Prelude.{map}
use Rattle.serde_json.specs.Data.{depth, items_depth}
use Rattle.serde_json.specs.View.{view, items_view}
use Rattle.dap_json.specs.Lent.{lent_data}
use Rattle.dap_shape.specs.Faults.{rows_fault, items_fault}
use Rattle.dap_shape.specs.Seen.{row_seen}
use Rattle.dap_shape.proofs.ShapeLemmas.{found_in, weight}
use Rattle.dap_shape.proofs.walking.+shape.Given as goal

abbrev pub decreases-fault_of : goal.decreases-fault_of
decreases-fault_of l = 6 * depth (view l.value.now) + 5

abbrev pub decreases-object_fault : goal.decreases-object_fault
decreases-object_fault l = 6 * depth (view l.value.now) + 4

abbrev pub decreases-list_fault : goal.decreases-list_fault
decreases-list_fault l = 6 * depth (view l.value.now) + 4

abbrev pub decreases-fields_fault : goal.decreases-fields_fault
decreases-fields_fault l = 6 * depth (view l.value.now) + 3

abbrev pub decreases-member_fault : goal.decreases-member_fault
decreases-member_fault l = 6 * depth (view l.value.now) + 2

abbrev pub decreases-held_fault : goal.decreases-held_fault
decreases-held_fault l = weight (lent_data l.held)

abbrev pub decreases-items_fault : goal.decreases-items_fault
decreases-items_fault l = 6 * items_depth (items_view l.items.now.items) + 6

-- the rows that are left decide, and the elements
abbrev pub invariant-fields_fault-loop-field : goal.invariant-fields_fault-loop-field
invariant-fields_fault-loop-field l = rows_fault (found_in (view l.value)) (map row_seen (drop l.field-index l.fields)) ≡ rows_fault (found_in (view l.value)) (map row_seen l.fields)

abbrev pub invariant-items_fault-loop-place : goal.invariant-items_fault-loop-place
invariant-items_fault-loop-place l = items_fault l.place l.kind (items_view (drop l.place l.items.items)) ≡ items_fault 0 l.kind (items_view l.items.items)

use Rattle.std.proofs.Common.{◌≡◌, ◌*◌, suc, [], drop}
use Rattle.serde_json.specs.Data.{depth}
use Rattle.serde_json.specs.View.{view, items_view}
use Rattle.dap_recording.specs.Reading.{each_variable}
use Rattle.dap_recording.proofs.rows.+variables.Given as goal

-- how deep the variables nest, and a variable is read before its children
abbrev pub decreases-variable : goal.decreases-variable
decreases-variable l = suc (2 * depth (view l.value.now))

abbrev pub decreases-children : goal.decreases-children
decreases-children l = 2 * depth (view l.value.now)

abbrev pub decreases-variables : goal.decreases-variables
decreases-variables l = 2 * depth (view l.value.now)

-- the variables so far, and those of what is left, are all of them
abbrev pub invariant-variables-loop-item : goal.invariant-variables-loop-item
invariant-variables-loop-item l = each_variable (items_view (drop l.item-index l.item-items)) l.found.items l.holders.items ≡ each_variable (items_view l.item-items) [] l.initial.holders.items

use Rattle.std.proofs.Common.{◌≡◌, [], drop}
use Rattle.serde_json.specs.View.{items_view}
use Rattle.dap_line.specs.Told.{each_variable}
use Rattle.dap_line.proofs.told.each_variable.Given as goal

-- those so far, and those of what is left, are all of them
abbrev pub invariant-loop-item : goal.invariant-loop-item
invariant-loop-item l = each_variable (items_view (drop l.item-index l.items)) l.variables.items ≡ each_variable (items_view l.items) []

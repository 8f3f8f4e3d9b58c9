use Rattle.std.proofs.Common.{◌≡◌, [], drop}
use Rattle.serde_json.specs.View.{items_view}
use Rattle.dap_command.specs.Opening.{each_opened}
use Rattle.dap_command.proofs.opening_list.each_opened.Given as goal

-- those so far, and those of what is left, are all of them
abbrev pub invariant-loop-item : goal.invariant-loop-item
invariant-loop-item l = each_opened (items_view (drop l.item-index l.items)) l.commands.items ≡ each_opened (items_view l.items) []

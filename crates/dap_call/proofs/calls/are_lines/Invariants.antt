use Rattle.std.proofs.Common.{◌≡◌, drop, is_some}
use Rattle.serde_json.specs.View.{items_view}
use Rattle.dap_command.specs.Numbers.{number_of}
use Rattle.dap_call.specs.Call.{each}
use Rattle.dap_call.proofs.calls.are_lines.Given as goal

-- all are lines if those that are left are
abbrev pub invariant-loop-item : goal.invariant-loop-item
invariant-loop-item l = is_some (each number_of (items_view (drop l.item-index l.item-items))) ≡ is_some (each number_of (items_view l.item-items))

use Rattle.std.proofs.Common.{◌≡◌, ◌++◌, drop, option_map}
use Rattle.serde_json.specs.View.{items_view}
use Rattle.dap_command.specs.Numbers.{number_of}
use Rattle.dap_call.specs.Call.{each}
use Rattle.dap_call.proofs.calls.lines.Given as goal

-- the lines so far, and those of what is left, are all lines
abbrev pub invariant-loop-item : goal.invariant-loop-item
invariant-loop-item l = option_map (λ xs. l.found.items ++ xs) (each number_of (items_view (drop l.item-index l.item-items))) ≡ each number_of (items_view l.item-items)

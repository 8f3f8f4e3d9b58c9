use Rattle.std.proofs.Common.{◌≡◌, ◌++◌, drop, option_map}
use Rattle.serde_json.specs.View.{items_view}
use Rattle.dap_call.specs.Call.{each, line_in}
use Rattle.dap_call.proofs.calls.breakpoint_lines.Given as goal

-- the lines so far, and those of what is left, are all lines
abbrev pub invariant-loop-item : goal.invariant-loop-item
invariant-loop-item l = option_map (λ xs. l.found.items ++ xs) (each line_in (items_view (drop l.item-index l.item-items))) ≡ each line_in (items_view l.item-items)

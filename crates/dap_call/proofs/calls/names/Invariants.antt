use Rattle.std.proofs.Common.{◌≡◌, ◌++◌, drop, option_map}
use Rattle.serde_json.specs.View.{items_view}
use Rattle.dap_call.specs.Call.{each, name_in}
use Rattle.dap_call.proofs.calls.names.Given as goal

-- the texts so far, and those of what is left, are all texts
abbrev pub invariant-loop-item : goal.invariant-loop-item
invariant-loop-item l = option_map (λ xs. l.found.items ++ xs) (each name_in (items_view (drop l.item-index l.item-items))) ≡ each name_in (items_view l.item-items)

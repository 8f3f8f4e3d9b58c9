use Rattle.std.proofs.Common.{◌≡◌, ◌++◌, drop, option_map}
use Rattle.serde_json.specs.View.{items_view}
use Rattle.serde_json.specs.Find.{as_str}
use Rattle.dap_call.specs.Call.{each}
use Rattle.dap_call.proofs.calls.text_list.Given as goal

-- the texts so far, and those of what is left, are all texts
abbrev pub invariant-loop-item : goal.invariant-loop-item
invariant-loop-item l = option_map (λ xs. l.found.items ++ xs) (each as_str (items_view (drop l.item-index l.item-items))) ≡ each as_str (items_view l.item-items)

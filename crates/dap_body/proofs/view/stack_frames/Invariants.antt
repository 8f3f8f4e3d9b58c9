use Rattle.std.proofs.Common.{◌≡◌, ◌++◌, drop, map}
use Rattle.serde_json.specs.View.{items_view}
use Rattle.dap_json.specs.Property.{ok_map}
use Rattle.dap_body.specs.View.{each}
use Rattle.dap_body.specs.Elements.{stack_frame_of}
use Rattle.dap_body.specs.Lent.{stack_frame_parts}
use Rattle.dap_body.proofs.view.stack_frames.Given as goal

-- those so far, and those of what is left, are all
abbrev pub invariant-loop-index : goal.invariant-loop-index
invariant-loop-index l = ok_map (λ xs. map stack_frame_parts l.found.items ++ xs) (each stack_frame_of l.index (items_view (drop l.index l.items))) ≡ each stack_frame_of 0 (items_view l.items)

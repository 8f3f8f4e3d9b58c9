use Rattle.std.proofs.Common.{◌≡◌, Some, map, take}
use Rattle.dap_debuggee.specs.declared.answers.Frame.{Frame}
use Rattle.dap_tables.specs.References.{frame_of}
use Rattle.dap_query.proofs.bodies.frames_named.Given as goal

-- of those so far
abbrev pub invariant-loop-told : goal.invariant-loop-told
invariant-loop-told l = l.named.items ≡ map (λ (x : Frame). Some (frame_of x.object)) (take l.told-index l.frames)

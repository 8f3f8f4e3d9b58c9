use Rattle.std.proofs.Common.{◌≡◌, map, take}
use Rattle.dap_debuggee.specs.declared.answers.Frame.{Frame}
use Rattle.dap_query.specs.Bodies.{optional_source_of_frame}
use Rattle.dap_query.proofs.bodies.sources_of_frames.Given as goal

abbrev pub invariant-loop-frame : goal.invariant-loop-frame
invariant-loop-frame g l = l.told.items ≡ map (λ (f : Frame). optional_source_of_frame (g.D.Debuggee.shown l.debuggee).sources f.source) (take l.frame-index l.frames)

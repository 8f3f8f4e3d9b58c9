use Rattle.std.proofs.Common.{◌≡◌, take}
use Rattle.dap_recording.proofs.shown.frames.Given as goal

-- the copy so far is what stands there so far
abbrev pub invariant-loop-frame : goal.invariant-loop-frame
invariant-loop-frame l = l.copy.items ≡ take l.frame-index l.frames

use Rattle.std.proofs.Common.{◌≡◌, take}
use Rattle.dap_recording.proofs.variables.copied.Given as goal

-- the copy so far is what stands there so far
abbrev pub invariant-loop-original : goal.invariant-loop-original
invariant-loop-original l = l.copy.items ≡ take l.original-index l.variables

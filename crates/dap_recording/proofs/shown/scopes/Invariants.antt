use Rattle.std.proofs.Common.{◌≡◌, take}
use Rattle.dap_recording.proofs.shown.scopes.Given as goal

-- the copy so far is what stands there so far
abbrev pub invariant-loop-scope : goal.invariant-loop-scope
invariant-loop-scope l = l.copy.items ≡ take l.scope-index l.scopes

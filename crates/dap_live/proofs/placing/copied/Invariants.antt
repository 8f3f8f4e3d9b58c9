use Rattle.std.proofs.Common.{◌≡◌, take}
use Rattle.dap_live.proofs.placing.copied.Given as goal

-- those so far
abbrev pub invariant-loop-original : goal.invariant-loop-original
invariant-loop-original l = l.copy.items ≡ take l.original-index l.placements

use Rattle.std.proofs.Common.{◌≡◌, take, map}
use Rattle.dap_recording.specs.PrivatePaths.{placed_within}
use Rattle.dap_recording.proofs.sources.verified.Given as goal

-- the answers so far are those of the lines so far
abbrev pub invariant-loop-line : goal.invariant-loop-line
invariant-loop-line l = l.answers.items ≡ map (placed_within l.most) (take l.line-index l.lines)

use Rattle.std.proofs.Common.{◌≡◌, take, map}
use Rattle.my_debugger.specs.ToyShown.{placed_in}
use Rattle.my_debugger.proofs.queries.verified.Given as goal

-- the answers so far are those of the lines so far
abbrev pub invariant-loop-line : goal.invariant-loop-line
invariant-loop-line l = l.answers.items ≡ map (placed_in l.source) (take l.line-index l.lines)

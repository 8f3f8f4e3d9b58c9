use Rattle.std.proofs.Common.{◌≡◌, take}
use Rattle.my_debugger.specs.ToyShown.{frames_from}
use Rattle.my_debugger.proofs.queries.frames.Given as goal

-- the frames so far are those of the calls so far
abbrev pub invariant-loop-number : goal.invariant-loop-number
invariant-loop-number l = l.frames.items ≡ frames_from 0 (take l.number l.stack)

use Rattle.std.proofs.Common.{◌≡◌, ◌≤◌, ◌<◌, length, take}
use Rattle.dap_replay.specs.Moves.{passes, last_place, greatest_before}
use Rattle.dap_replay.specs.Played.{lines_in}
use Rattle.dap_replay.proofs.moves.Plan.greatest_before.Given as goal

-- the greatest place is before k
abbrev pub invariant-loop-k : goal.invariant-loop-k
invariant-loop-k l =
    (l.k ≤ l.i) × (l.i < length l.self.moments.now)
    × (last_place (passes l.self.sources.now (lines_in l.self.set.now) l.wanted) (take l.k l.self.moments.now)
    ≡ greatest_before (passes l.self.sources.now (lines_in l.self.set.now) l.wanted) l.i l.self.moments.now)

abbrev pub decreases-loop-k : goal.decreases-loop-k
decreases-loop-k l = l.k

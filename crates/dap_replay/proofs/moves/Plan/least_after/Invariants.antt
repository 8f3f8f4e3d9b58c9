use Rattle.std.proofs.Common.{◌≡◌, ◌≤◌, ◌+◌, ◌-◌, ◌||◌, length, drop}
use Rattle.dap_replay.specs.Moves.{passes, has_stop, first_place, next_stop}
use Rattle.dap_replay.specs.Played.{lines_in}
use Rattle.dap_replay.proofs.moves.Plan.least_after.Given as goal

-- the least place is not before k
abbrev pub invariant-loop-moment : goal.invariant-loop-moment
invariant-loop-moment l =
    (l.k ≤ length l.self.moments.now)
    × (l.k + first_place (λ m. passes l.self.sources.now (lines_in l.self.set.now) l.wanted m || has_stop m) (drop l.k l.self.moments.now)
    ≡ next_stop (passes l.self.sources.now (lines_in l.self.set.now) l.wanted) l.i l.self.moments.now)

abbrev pub decreases-loop-moment : goal.decreases-loop-moment
decreases-loop-moment l = length l.self.moments.now - l.k

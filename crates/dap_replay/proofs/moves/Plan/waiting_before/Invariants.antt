use Rattle.std.proofs.Common.{◌≡◌, ◌≤◌, ◌+◌, ◌-◌, length, drop}
use Rattle.dap_replay.specs.Moves.{first_place, least_after}
use Rattle.dap_replay.proofs.moves.Plan.waiting_before.Given as goal

-- the least waiting place is not before k
abbrev pub invariant-loop-k : goal.invariant-loop-k
invariant-loop-k l =
    (l.k ≤ length l.self.moments.now)
    × (l.k + first_place (λ m. m.waits) (drop l.k l.self.moments.now) ≡ least_after (λ m. m.waits) l.i l.self.moments.now)

abbrev pub decreases-loop-k : goal.decreases-loop-k
decreases-loop-k l = length l.self.moments.now - l.k

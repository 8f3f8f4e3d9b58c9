use Rattle.std.proofs.Common.{◌≡◌, ◌-◌, length, Some}
use Rattle.dap_replay.specs.PrivateHeld.{output_left, IsOutputWhole}
use Rattle.dap_replay.specs.Played.{first_piece}
use Rattle.dap_replay.proofs.run.skipped.Given as goal

-- what was passed gives no piece
abbrev pub invariant-loop-going : goal.invariant-loop-going
invariant-loop-going l =
    IsOutputWhole l.moments (Some l.going)
    × (first_piece (output_left l.moments l.going) ≡ first_piece (output_left l.moments l.fn.going))
    × (l.going.to ≡ l.fn.going.to) × (l.going.paused ≡ l.fn.going.paused)

abbrev pub decreases-loop-going : goal.decreases-loop-going
decreases-loop-going l = length l.moments - l.going.moment

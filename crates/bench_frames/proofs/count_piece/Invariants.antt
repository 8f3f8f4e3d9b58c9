use Rattle.std.proofs.Common.{◌-◌, ◌≤◌, length}
use Rattle.dap_frame.specs.Intake.{IsUnderWay}
use Rattle.bench_frames.proofs.count_piece.Given as goal

abbrev pub invariant-loop-at : goal.invariant-loop-at
invariant-loop-at l = record {
  within : l.at ≤ length l.piece;
  under_way : IsUnderWay l.frames;
}

abbrev pub decreases-loop-at : goal.decreases-loop-at
decreases-loop-at l = length l.piece - l.at

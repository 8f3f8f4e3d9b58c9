use Rattle.dap_frame.specs.Intake.{IsUnderWay}
use Rattle.bench_frames.proofs.count.Given as goal

abbrev pub invariant-loop-read : goal.invariant-loop-read
invariant-loop-read l = IsUnderWay l.frames

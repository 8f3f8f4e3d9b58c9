use Rattle.std.proofs.Common.{◌+◌, ◌≤◌, length}
use Rattle.dap_frame.specs.Intake.{IsUnderWay}
use Rattle.dap_drive.specs.PrivateHeld.{driven_by, both_of}
use Rattle.dap_drive.proofs.Scripting.{IsPartWay}
use Rattle.dap_drive.proofs.driving.drive_debuggee.Given as goal

abbrev pub invariant-loop-rest : goal.invariant-loop-rest
invariant-loop-rest g l = record {
  reading : IsUnderWay l.drive.reader;
  within : l.number + length l.rest ≤ length l.script;
  part : IsPartWay (driven_by g.D.Debuggee.shown g.D.Debuggee.follows l.fn.limits l.fn.debuggee) l.script l.rest l.number (both_of l.drive);
}

abbrev pub decreases-loop-rest : goal.decreases-loop-rest
decreases-loop-rest g l = length l.rest

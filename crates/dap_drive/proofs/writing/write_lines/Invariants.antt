use Rattle.std.proofs.Common.{◌-◌, ◌≤◌, length, take}
use Rattle.dap_frame.specs.Intake.{IsUnderWay}
use Rattle.dap_frame.specs.Settings.{Settings}
use Rattle.dap_drive.specs.PrivateLines.{IsBetween, WritesLines}
use Rattle.dap_drive.proofs.writing.write_lines.Given as goal

abbrev pub invariant-loop-at : goal.invariant-loop-at
invariant-loop-at l = record {
  within : l.at ≤ length l.bytes;
  under_way : IsUnderWay l.reader;
  lines : (limits : Settings) → IsBetween limits l.fn.reader → WritesLines limits l.reader l.side (take l.at l.bytes) l.fn.transcript.items l.transcript.items;
}

abbrev pub decreases-loop-at : goal.decreases-loop-at
decreases-loop-at l = length l.bytes - l.at

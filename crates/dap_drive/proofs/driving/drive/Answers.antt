use Rattle.std.specs.Str.Lines.{lines}
use Rattle.dap_drive.proofs.Recordings.{over_drives, over_stops}
use Rattle.dap_drive.proofs.driving.drive.Goals as goal

pub returns-in-Ok-transcript-clause-drives : goal.returns-in-Ok-transcript-clause-drives
returns-in-Ok-transcript-clause-drives c =
    let drives = rw c.in-Ok-transcript.is at c.drive_debuggee-transcript.ensures.drives in
    over_drives c.args.limits c.args.recording.now (lines c.args.script.now) c.in-Ok.recorded c.drive_debuggee-transcript.result.debuggee c.in-Ok-transcript.transcript.items c.in-Ok.ensures.0 c.in-Ok.ensures.1 drives

pub returns-in-Err-transcript-clause-stops : goal.returns-in-Err-transcript-clause-stops
returns-in-Err-transcript-clause-stops c =
    let stops = rw c.in-Err-transcript.is at c.drive_debuggee-transcript.ensures.stops in
    let numbers = rw c.in-Err-transcript.is at (c.drive_debuggee-transcript.ensures.numbers c.recorded_stops_last.ensures) in
    over_stops c.args.limits c.args.recording.now (lines c.args.script.now) c.in-Ok.recorded c.in-Err-transcript.fault c.drive_debuggee-transcript.result.debuggee c.in-Ok.ensures.0 c.in-Ok.ensures.1 stops numbers

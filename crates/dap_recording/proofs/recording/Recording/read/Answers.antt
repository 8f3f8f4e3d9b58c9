-- What is read is a recording.
use Rattle.serde_json.specs.View.{view}
use Rattle.dap_json.specs.Read.{json_of}
use Rattle.dap_recording.proofs.IsRead.{is_read, verdict_holds}
use Rattle.dap_recording.proofs.recording.Recording.read.Goals as goal

pub returns-in-Some-clause-holds : goal.returns-in-Some-clause-holds
returns-in-Some-clause-holds c = verdict_holds (json_of c.args.bytes.now) c.in-Some.recording c.in-Some.ensures

pub returns-clause-holds : goal.returns-clause-holds
returns-clause-holds c = is_read (view c.in-Ok.value) c.in_ok-recording.field-0 c.in_ok-recording.ensures

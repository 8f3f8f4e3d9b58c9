use Rattle.dap_replay.proofs.Told.{told_can_be_asked}
use Rattle.dap_replay.proofs.recorded.Recorded.told_can_be_asked.Goals as goal

pub returns : goal.returns
returns c = told_can_be_asked c.args.self.now c.is_recording.ensures.recording c.is_recording.ensures.changed

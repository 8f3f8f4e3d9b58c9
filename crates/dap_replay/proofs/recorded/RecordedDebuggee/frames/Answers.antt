use Rattle.dap_replay.proofs.Ranges.{frames_in_range, names_one}
use Rattle.dap_replay.proofs.recorded.RecordedDebuggee.frames.Goals as goal

pub returns-clause-in_range : goal.returns-clause-in_range
returns-clause-in_range c = frames_in_range c.args.self.now c.is_recording.ensures.recording

pub returns-clause-one_name : goal.returns-clause-one_name
returns-clause-one_name c = names_one c.args.self.now c.is_recording.ensures.recording

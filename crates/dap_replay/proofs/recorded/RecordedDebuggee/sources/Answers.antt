use Rattle.dap_replay.proofs.Ranges.{sources_in_range}
use Rattle.dap_replay.proofs.recorded.RecordedDebuggee.sources.Goals as goal

pub returns-clause-in_range : goal.returns-clause-in_range
returns-clause-in_range c = sources_in_range c.args.self.now c.is_recording.ensures.recording

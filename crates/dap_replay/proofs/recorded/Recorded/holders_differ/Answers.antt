use Rattle.dap_replay.proofs.OneHolder.{names_one_holder}
use Rattle.dap_replay.proofs.recorded.Recorded.holders_differ.Goals as goal

pub returns : goal.returns
returns c = names_one_holder c.args.self.now c.is_recording.ensures.recording c.is_recording.ensures.changed

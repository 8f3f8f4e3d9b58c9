use Rattle.dap_replay.specs.PlayedLaws.{same_frames-played}
use Rattle.dap_replay.proofs.laws.recorded_frames_are_constant.Goals as goal

pub returns : goal.returns
returns c = same_frames-played

use Rattle.dap_replay.specs.PlayedLaws.{same_sources-played}
use Rattle.dap_replay.proofs.laws.recorded_sources_are_constant.Goals as goal

pub returns : goal.returns
returns c = same_sources-played

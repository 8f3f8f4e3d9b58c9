use Rattle.dap_replay.proofs.Stops.{stops-last}
use Rattle.dap_replay.proofs.laws.recorded_stops_last.Goals as goal

pub returns : goal.returns
returns c = stops-last

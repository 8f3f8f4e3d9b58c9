use Rattle.dap_replay.proofs.Plain.{plays_without_stops}
use Rattle.dap_replay.proofs.laws.plays_without_stops.Goals as goal

pub returns : goal.returns
returns c = plays_without_stops

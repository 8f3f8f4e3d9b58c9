use Rattle.dap_replay.proofs.Telling.{held_nothing}
use Rattle.dap_replay.proofs.laws.held_gives_nothing.Goals as goal

pub returns : goal.returns
returns c = held_nothing

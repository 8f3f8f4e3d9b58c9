use Rattle.dap_replay.proofs.Telling.{polls_tell}
use Rattle.dap_replay.proofs.laws.polls_tell_the_pieces.Goals as goal

pub returns : goal.returns
returns c = polls_tell

use Rattle.dap_adapter.proofs.FirstPoll.{tell_first}
use Rattle.dap_adapter.proofs.answering.tell_polls_first.Goals as goal

pub returns : goal.returns
returns g c = tell_first g.D.Debuggee.shown g.D.Debuggee.follows

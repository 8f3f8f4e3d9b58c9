use Rattle.dap_adapter.proofs.RunningOn.{calls_add_up}
use Rattle.dap_adapter.proofs.answering.calls_in_turn_add_up.Goals as goal

pub returns : goal.returns
returns g c = calls_add_up g.D.Debuggee.shown g.D.Debuggee.follows

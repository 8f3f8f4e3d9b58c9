use Rattle.dap_adapter.proofs.RunningOn.{parts_join}
use Rattle.dap_adapter.proofs.answering.parts_of_a_run_join.Goals as goal

pub returns : goal.returns
returns g c = parts_join g.D.Debuggee.shown g.D.Debuggee.follows

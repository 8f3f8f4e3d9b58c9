use Rattle.dap_plan.proofs.States.{each_step_keeps_state as its_state}
use Rattle.dap_plan.proofs.laws.each_step_keeps_state.Goals as goal

pub returns : goal.returns
returns c = its_state

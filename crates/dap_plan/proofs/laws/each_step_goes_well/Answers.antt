use Rattle.dap_plan.proofs.Going.{each_step_goes_well}
use Rattle.dap_plan.proofs.laws.each_step_goes_well.Goals as goal

pub returns : goal.returns
returns c = each_step_goes_well

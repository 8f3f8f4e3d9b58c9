use Rattle.dap_plan.proofs.Going.{each_step_goes_on}
use Rattle.dap_plan.proofs.laws.each_step_goes_on.Goals as goal

pub returns : goal.returns
returns c = each_step_goes_on c.histories_grow.ensures

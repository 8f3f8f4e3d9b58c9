use Rattle.dap_plan.proofs.Staying.{each_step_stays_within}
use Rattle.dap_plan.proofs.laws.each_step_stays_within.Goals as goal

pub returns : goal.returns
returns c = each_step_stays_within

use Rattle.dap_plan.proofs.Refusals.{refusals_change_nothing}
use Rattle.dap_plan.proofs.laws.refusals_change_nothing.Goals as goal

pub returns : goal.returns
returns c = refusals_change_nothing

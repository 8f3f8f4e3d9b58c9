use Rattle.dap_plan.proofs.LendingWell.{opened_commands_are_lent}
use Rattle.dap_plan.proofs.laws.opened_commands_are_lent.Goals as goal

pub returns : goal.returns
returns c = opened_commands_are_lent

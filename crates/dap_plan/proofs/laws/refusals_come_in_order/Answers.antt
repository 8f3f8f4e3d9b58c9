use Rattle.dap_plan.proofs.Ordered.{refusals_come_in_order}
use Rattle.dap_plan.proofs.laws.refusals_come_in_order.Goals as goal

pub returns : goal.returns
returns c = refusals_come_in_order

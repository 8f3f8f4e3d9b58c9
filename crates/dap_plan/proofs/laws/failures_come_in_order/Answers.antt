use Rattle.dap_plan.proofs.OrderedAnswers.{failures_come_in_order}
use Rattle.dap_plan.proofs.laws.failures_come_in_order.Goals as goal

pub returns : goal.returns
returns c = failures_come_in_order

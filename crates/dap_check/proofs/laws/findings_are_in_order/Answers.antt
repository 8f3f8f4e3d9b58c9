use Rattle.dap_check.proofs.Ordered.{in_order}
use Rattle.dap_check.proofs.laws.findings_are_in_order.Goals as goal

pub returns : goal.returns
returns c = in_order

use Rattle.dap_plan.proofs.Apart.{references_are_apart}
use Rattle.dap_plan.proofs.laws.references_are_apart.Goals as goal

pub returns : goal.returns
returns c = references_are_apart

use Rattle.dap_plan.proofs.Stale.{dead_numbers_are_stale}
use Rattle.dap_plan.proofs.laws.dead_numbers_are_stale.Goals as goal

pub returns : goal.returns
returns c = dead_numbers_are_stale c.references_are_apart.ensures

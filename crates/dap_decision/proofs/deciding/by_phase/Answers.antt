use Rattle.std.proofs.Common.{rules}
use Rattle.dap_decision.proofs.ServedRows.{served-passes}
use Rattle.dap_decision.proofs.deciding.by_phase.Goals as goal

pub returns-in-Some-clause-passed : goal.returns-in-Some-clause-passed
returns-in-Some-clause-passed c = served-passes c.args.phase c.args.command c.in-Some.effect (search rules)

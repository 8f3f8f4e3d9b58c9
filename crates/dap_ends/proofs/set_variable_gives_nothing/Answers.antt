use Rattle.dap_ends.proofs.PairResults.{set-table, set-given}
use Rattle.dap_ends.proofs.set_variable_gives_nothing.Goals as goal

pub returns-clause-table : goal.returns-clause-table
returns-clause-table c = λ n r w ok more named e. set-table r w ok more named e

pub returns-clause-given : goal.returns-clause-given
returns-clause-given c = λ n r w ok more named e. set-given r w ok more named e

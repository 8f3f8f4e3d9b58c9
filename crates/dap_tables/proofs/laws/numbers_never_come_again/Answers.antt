use Rattle.dap_tables.proofs.LawLemmas.{never-again}
use Rattle.dap_tables.proofs.laws.numbers_never_come_again.Goals as goal

pub returns : goal.returns
returns c = never-again

use Rattle.dap_tables.proofs.LawLemmas.{ids-rise}
use Rattle.dap_tables.proofs.laws.ids_never_come_again.Goals as goal

pub returns : goal.returns
returns c = ids-rise

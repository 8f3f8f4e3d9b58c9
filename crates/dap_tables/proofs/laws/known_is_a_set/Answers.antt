use Rattle.dap_tables.proofs.KnownLemmas.{known_is_a_set}
use Rattle.dap_tables.proofs.laws.known_is_a_set.Goals as goal

pub returns : goal.returns
returns c = known_is_a_set

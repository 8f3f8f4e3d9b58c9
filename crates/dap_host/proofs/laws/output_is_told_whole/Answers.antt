use Rattle.dap_host.proofs.PartLemmas.{told_whole}
use Rattle.dap_host.proofs.laws.output_is_told_whole.Goals as goal

pub returns : goal.returns
returns c = told_whole c.pieces_are_the_output.ensures

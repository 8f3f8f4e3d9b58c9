use Rattle.dap_client.proofs.Names.{name-fits}
use Rattle.dap_client.proofs.laws.each_name_is_short.Goals as goal

pub returns : goal.returns
returns c = name-fits

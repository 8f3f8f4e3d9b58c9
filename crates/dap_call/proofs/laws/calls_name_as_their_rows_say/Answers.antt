use Rattle.dap_call.proofs.Named.{as_the_row_says}
use Rattle.dap_call.proofs.laws.calls_name_as_their_rows_say.Goals as goal

pub returns : goal.returns
returns c = as_the_row_says

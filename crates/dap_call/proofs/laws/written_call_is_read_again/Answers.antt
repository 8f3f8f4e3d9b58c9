use Rattle.dap_call.proofs.ReadAgain.{call_again}
use Rattle.dap_call.proofs.laws.written_call_is_read_again.Goals as goal

pub returns : goal.returns
returns c = call_again

use Rattle.dap_request.proofs.ReadBeside.{what_is_read}
use Rattle.dap_request.proofs.laws.what_is_read_is_the_call.Goals as goal

pub returns : goal.returns
returns c = what_is_read c.written_call_is_read_again.ensures

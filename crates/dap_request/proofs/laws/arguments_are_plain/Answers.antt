use Rattle.dap_request.proofs.PlainBeside.{are_plain}
use Rattle.dap_request.proofs.laws.arguments_are_plain.Goals as goal

pub returns : goal.returns
returns c = are_plain c.written_call_is_plain.ensures

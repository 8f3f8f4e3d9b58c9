use Rattle.dap_call.proofs.PlainTree.{call_plain}
use Rattle.dap_call.proofs.laws.written_call_is_plain.Goals as goal

pub returns : goal.returns
returns c = call_plain

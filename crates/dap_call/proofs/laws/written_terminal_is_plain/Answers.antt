use Rattle.dap_call.proofs.TerminalLaws.{is_plain}
use Rattle.dap_call.proofs.laws.written_terminal_is_plain.Goals as goal

pub returns : goal.returns
returns c = is_plain

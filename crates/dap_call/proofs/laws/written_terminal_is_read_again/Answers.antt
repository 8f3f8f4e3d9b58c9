use Rattle.dap_call.proofs.TerminalLaws.{read_again}
use Rattle.dap_call.proofs.laws.written_terminal_is_read_again.Goals as goal

pub returns : goal.returns
returns c = read_again

use Rattle.dap_client.proofs.TerminalRequests.{announces}
use Rattle.dap_client.proofs.sending.announced_after.Goals as goal

pub returns-in-Initialize : goal.returns-in-Initialize
returns-in-Initialize c = rw c.in-Initialize.is (announces c.in-Initialize.asked)

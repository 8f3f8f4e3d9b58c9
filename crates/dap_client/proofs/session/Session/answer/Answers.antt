use Rattle.std.proofs.Common.{subst}
use Rattle.dap_client.specs.Session.{Session}
use Rattle.dap_client.specs.Within.{AreTerminalRequests}
use Rattle.dap_client.proofs.TerminalRequests.{seq-in-range}
use Rattle.dap_client.proofs.session.Session.answer.Goals as goal

pub append_response-requires-clause-request : goal.append_response-requires-clause-request
append_response-requires-clause-request c = seq-in-range c.args.request_seq c.args.self.now.incoming c.in-None.ensures.kept (subst (λ (s : Session). AreTerminalRequests s.incoming) c.self.view_is c.self.invariant.terminals)

use Rattle.std.proofs.Common.{ap, ◌∙◌}
use Rattle.dap_client.specs.Session.{Session, oldest_of}
use Rattle.dap_client.proofs.TerminalRequests.{oldest-unparked}
use Rattle.dap_client.proofs.session.Session.oldest_incoming.Goals as goal

pub returns : goal.returns
returns c = c.oldest_unparked.ensures.oldest ∙ oldest-unparked c.self.inside.incoming.kept c.self.invariant.terminals ∙ ap (λ (s : Session). oldest_of s.incoming) c.self.view_is

use Rattle.std.proofs.Common.{ap, ◌∙◌}
use Rattle.dap_tables.specs.Seq.{Numbers}
use Rattle.dap_session.proofs.Sessions.{session-unparked}
use Rattle.dap_session.proofs.session.Session.commit_asked.Goals as goal

pub invariant_of-self : goal.invariant_of-self
invariant_of-self g c = session-unparked _ _ _ _ _ _ _ c.self.invariant c.clear_starting.ensures.others c.clear_starting.ensures.orderly (ap (λ (n : Numbers). n.last) c.numbers-self-inside.ensures.numbers ∙ (rw (← c.self.view_is) at c.requires.last)) c.numbers-self-inside.ensures.used

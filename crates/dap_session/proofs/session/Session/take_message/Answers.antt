use Rattle.std.proofs.Common.{refl}
use Rattle.dap_plan.specs.Plan.{no_change, at_once}
use Rattle.dap_session.proofs.TakingRequests.{no-step}
use Rattle.dap_session.proofs.session.Session.take_message.Goals as goal

pub returns-in-Event-clause-taken : goal.returns-in-Event-clause-taken
returns-in-Event-clause-taken g c =
    record { plan = at_once (no_change c.args.self.now.session); is = rw c.in-Event.is refl; carries = no-step g.D.Debuggee.follows c.args.self.now _ c.requires.ready.none }

pub returns-in-Other-clause-taken : goal.returns-in-Other-clause-taken
returns-in-Other-clause-taken g c =
    record { plan = at_once (no_change c.args.self.now.session); is = rw c.in-Other.is refl; carries = no-step g.D.Debuggee.follows c.args.self.now _ c.requires.ready.none }

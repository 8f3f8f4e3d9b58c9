use Rattle.std.proofs.Common.{refl}
use Rattle.dap_session.proofs.Limited.{turned-limits, turned-fewer}
use Rattle.dap_session.proofs.Turning.{turned, not_turned}
use Rattle.dap_session.proofs.session.Session.turn_with.Goals as goal

pub returns-in-Ok-clause-done : goal.returns-in-Ok-clause-done
returns-in-Ok-clause-done g c = λ yes.
    turned g.D.Debuggee.shown g.D.Debuggee.follows _ _ _ c.in-Ok-Some.request (rw c.in-Ok-Some.field-0-is at c.in-Ok-Some.ensures.oldest) c.in-Ok.ensures.within c.in-Ok.ensures.carries

pub returns-in-Ok-clause-limits : goal.returns-in-Ok-clause-limits
returns-in-Ok-clause-limits g c = turned-limits g.D.Debuggee.shown g.D.Debuggee.follows _ _ _ (returns-in-Ok-clause-done g c refl)

pub returns-in-Ok-clause-fewer : goal.returns-in-Ok-clause-fewer
returns-in-Ok-clause-fewer g c = λ yes. turned-fewer g.D.Debuggee.shown g.D.Debuggee.follows _ _ _ (rw (← c.self.view_is) c.self.invariant.orderly.distinct) (returns-in-Ok-clause-done g c yes)

pub returns-in-Err-handle_any-clause-refused : goal.returns-in-Err-handle_any-clause-refused
returns-in-Err-handle_any-clause-refused g c =
    not_turned g.D.Debuggee.shown c.in-Err-handle_any.fault _ _ c.in-Ok-Some.request (rw c.in-Ok-Some.field-0-is at c.in-Ok-Some.ensures.oldest) c.in-Err-handle_any.ensures.refused

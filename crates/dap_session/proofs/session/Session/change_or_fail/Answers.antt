use Rattle.std.proofs.Common.{refl, sym, subst}
use Rattle.dap_plan.specs.Plan.{Plan}
use Rattle.dap_plan.specs.SessionState.{Carries}
use Rattle.dap_plan.proofs.ChangeResults.{change-carries}
use Rattle.dap_session.proofs.Outboxes.{each-done}
use Rattle.dap_session.proofs.TakingRequests.{at_once_carries}
use Rattle.dap_session.proofs.session.Session.change_or_fail.Goals as goal

pub returns-in_ok-make_change-in-Ok-clause-carries : goal.returns-in_ok-make_change-in-Ok-clause-carries
returns-in_ok-make_change-in-Ok-clause-carries g c =
    change-carries g.D.Debuggee.follows _ _ c.args.self.now c.make_change.new.self c.commit.new.self c.args.request.now c.weigh.new.out _ c.in-Ok.ensures.measured c.in_ok-make_change-in-Ok.ensures.changes c.commit.ensures.session refl

pub returns-in-Err-Fails-clause-carries : goal.returns-in-Err-Fails-clause-carries
returns-in-Err-Fails-clause-carries g c =
    each-done c.fail.result _ _
    (λ made. subst (λ (p : Plan). Carries g.D.Debuggee.follows p c.args.self.now c.fail.new.self c.fail.new.out.bytes) (sym (rw c.in-Err-Fails.field-0-is at c.in-Err-Fails.ensures.fails)) (at_once_carries g.D.Debuggee.follows _ _ _ _ made c.fail.ensures.debuggee))
    (rw c.query_before-query.ensures at c.fail.ensures.made)

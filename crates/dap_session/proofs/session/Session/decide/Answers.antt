use Rattle.std.proofs.Common.{◌≡◌, Some, subst}
use Rattle.dap_decision.specs.Decisions.{IsServed}
use Rattle.dap_plan.specs.Handling.{refusal}
use Rattle.dap_plan.specs.SessionState.{SessionState}
use Rattle.dap_session.proofs.Deciding.{decided-refused, decided-served, decided-suits}
use Rattle.dap_session.proofs.session.Session.decide.Goals as goal

pub returns-in-Ok-Refuses-clause-plan : goal.returns-in-Ok-Refuses-clause-plan
returns-in-Ok-Refuses-clause-plan g c =
    let h = rw c.in-Ok-Refuses.field-0-is at c.in-Ok-Refuses.ensures in
    decided-refused _ c.args.self.now.session c.args.request.now c.in-Ok-Refuses.failure
    (subst (λ (x : SessionState _). refusal (g.D.Debuggee.shown x.debuggee) x.session c.args.request.now ≡ Some c.in-Ok-Refuses.failure) c.self.view_is h)

pub returns-in-Ok-Serves-clause-plan : goal.returns-in-Ok-Serves-clause-plan
returns-in-Ok-Serves-clause-plan g c =
    let h = rw c.in-Ok-Serves.field-0-is at c.in-Ok-Serves.ensures in
    rw c.effect_of.ensures (decided-served _ c.args.self.now.session c.args.request.now c.in-Ok-Serves.effect c.in-Ok-Serves.call
    (subst (λ (x : SessionState _). IsServed (g.D.Debuggee.shown x.debuggee) x.session.phase x.session.references c.args.request.now c.in-Ok-Serves.effect c.in-Ok-Serves.call) c.self.view_is h))

pub returns-in-Ok-Serves-clause-suits : goal.returns-in-Ok-Serves-clause-suits
returns-in-Ok-Serves-clause-suits g c =
    let h = rw c.in-Ok-Serves.field-0-is at c.in-Ok-Serves.ensures in
    rw c.effect_of.ensures (decided-suits _ c.args.self.now.session c.args.request.now c.in-Ok-Serves.effect c.in-Ok-Serves.call
    (subst (λ (x : SessionState _). IsServed (g.D.Debuggee.shown x.debuggee) x.session.phase x.session.references c.args.request.now c.in-Ok-Serves.effect c.in-Ok-Serves.call) c.self.view_is h))

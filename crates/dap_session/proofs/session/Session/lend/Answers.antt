use Rattle.std.proofs.Common.{ap, sym, ◌∙◌}
use Rattle.dap_plan.specs.Lending.{after_lending}
use Rattle.dap_plan.specs.SessionState.{SessionState}
use Rattle.dap_session.proofs.TakingRequests.{at_once_carries}
use Rattle.dap_session.proofs.session.Session.lend.Goals as goal

pub returns-in_ok-room-in-None-clause-carries : goal.returns-in_ok-room-in-None-clause-carries
returns-in_ok-room-in-None-clause-carries g c =
    let none = sym c.in_ok-failure.ensures ∙ c.in-None.is in
    rw none
    (at_once_carries g.D.Debuggee.follows (after_lending c.args.self.now.session c.args.request.now) _ _ _
    (record { session = ap (λ (x : SessionState _). x.session) c.park.ensures; tells = record { bytes_are = c.requires.ready.none; reads_back = λ _. tt } })
    (ap (λ (x : SessionState _). x.debuggee) c.park.ensures))

use Rattle.std.proofs.Common.{sym, ap, ◌∙◌}
use Rattle.dap_plan.specs.SessionState.{SessionState}
use Rattle.dap_decision.specs.Table.{is_phase}
use Rattle.dap_decision.specs.declared.phase.Phase.TheVariants.{Asked}
use Rattle.dap_session.proofs.TakingRequests.{late-carries, waiting-carries}
use Rattle.dap_session.proofs.session.Session.take_answer.Goals as goal

pub returns-then-is_waiting-clause-carries : goal.returns-then-is_waiting-clause-carries
returns-then-is_waiting-clause-carries g c =
    waiting-carries g.D.Debuggee.follows c.args.success c.args.self.now _ _ (sym (c.if-is_waiting.ensures ∙ ap (λ (x : SessionState _). is_phase Asked x.session.phase) c.self.view_is)) c.in_ok-take_terminal.ensures.carries

pub returns-clause-carries : goal.returns-clause-carries
returns-clause-carries g c =
    late-carries g.D.Debuggee.follows c.args.success c.args.self.now _ _ (sym (c.if-is_waiting.ensures ∙ ap (λ (x : SessionState _). is_phase Asked x.session.phase) c.self.view_is)) c.set_asked.ensures c.requires.ready.none

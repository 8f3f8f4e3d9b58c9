use Rattle.std.proofs.Common.{subst}
use Rattle.dap_query.specs.Bodies.{query_result}
use Rattle.dap_query.specs.QueryResults.{IsQueryResult}
use Rattle.dap_plan.specs.Session.{query_of}
use Rattle.dap_plan.specs.SessionState.{SessionState}
use Rattle.dap_session.proofs.session.Session.query_body.Goals as goal

pub returns-clause-body : goal.returns-clause-body
returns-clause-body g c =
    subst (λ (x : SessionState _). IsQueryResult c.answer.result (query_result (g.D.Debuggee.shown x.debuggee) (query_of x.session) c.args.call.now) c.answer.new.self.references) c.self.view_is c.answer.ensures.told

use Rattle.std.proofs.Common.{rules, ap, refl}
use Rattle.dap_plan.specs.SessionState.{SessionState}
use Rattle.dap_session.proofs.RespondFaults.{response-made}
use Rattle.dap_session.proofs.session.Session.respond_late.Goals as goal

pub returns-in-Ok-true-lent_response-clause-made : goal.returns-in-Ok-true-lent_response-clause-made
returns-in-Ok-true-lent_response-clause-made g c =
    response-made c.args.seq c.args.outcome.now c.args.self.now.session c.commit.new.self.session c.lent_response.new.out c.lent_response.new.out.bytes
    (search rules)
    (ap (λ (x : SessionState _). x.session) c.commit.ensures.session) refl

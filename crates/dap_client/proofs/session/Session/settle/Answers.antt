use Rattle.dap_client.proofs.Answered.{session-fewer}
use Rattle.dap_client.proofs.session.Session.settle.Goals as goal

pub invariant_of-self : goal.invariant_of-self
invariant_of-self c =
    let inside = c.self.inside in
    session-fewer inside.limits inside.known inside.outstanding c.take.new.self inside.incoming inside.numbers c.args.request_seq c.self.invariant c.take.ensures.others c.take.ensures.orderly

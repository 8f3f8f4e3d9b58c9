use Rattle.dap_client.proofs.Answered.{session-settled, session-later}
use Rattle.dap_client.proofs.session.Session.settle_incoming.Goals as goal

pub invariant_of-self : goal.invariant_of-self
invariant_of-self c =
    let inside = c.self.inside in
    session-later inside.limits inside.known inside.outstanding c.take.new.self inside.numbers c.next.new.self
    (session-settled inside.limits inside.known inside.outstanding inside.incoming c.take.new.self inside.numbers c.args.request_seq c.self.invariant c.take.ensures.others c.take.ensures.orderly)
    c.next.ensures.moves c.next.ensures.bound

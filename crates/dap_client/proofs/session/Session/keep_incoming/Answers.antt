use Rattle.dap_client.proofs.Answered.{session-kept}
use Rattle.dap_client.proofs.session.Session.keep_incoming.Goals as goal

pub invariant_of-self : goal.invariant_of-self
invariant_of-self c =
    let inside = c.self.inside in
    session-kept inside.limits inside.known inside.outstanding inside.incoming c.put_in.new.outstanding inside.numbers c.args.request c.self.invariant
    c.put_in.ensures.kept c.put_in.ensures.orderly c.requires.terminal c.requires.range

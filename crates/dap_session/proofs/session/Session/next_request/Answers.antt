use Rattle.std.proofs.Common.{sym}
use Rattle.dap_session.proofs.Turning.{oldest-entry}
use Rattle.dap_session.proofs.session.Session.next_request.Goals as goal

pub returns-clause-oldest : goal.returns-clause-oldest
returns-clause-oldest g c =
    rw (← c.self.view_is, c.in_ok-copied-in-Some-get.ensures)
    (sym (oldest-entry c.self.inside.kept.kept c.in-Some.seq c.in-Some-get.request.now c.self.invariant.orderly.distinct (sym c.in-Some.ensures.oldest) (sym c.in-Some-get.ensures.entry)))

use Rattle.std.proofs.Common.{sym, ◌∙◌}
use Rattle.dap_session.proofs.session.Session.fail_parked.Goals as goal

pub returns-clause-writes : goal.returns-clause-writes
returns-clause-writes g c =
    let no = sym c.in_ok-explain_parked.ensures.fits ∙ c.if-branch.false in
    rw no (rw (c.in_ok-explain_parked.ensures.too_long c.if-branch.false) at c.answer_alike.ensures.writes)

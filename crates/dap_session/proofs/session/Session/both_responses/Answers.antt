use Rattle.dap_session.proofs.session.Session.both_responses.Goals as goal

pub returns-clause-holds : goal.returns-clause-holds
returns-clause-holds g c = c.in_ok-reply.ensures.writes.holds _ _ _ c.in_ok-one.ensures.holds.room c.in_ok-one.ensures.holds

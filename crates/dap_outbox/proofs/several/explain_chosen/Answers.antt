use Rattle.dap_outbox.proofs.several.explain_chosen.Goals as goal

pub returns-clause-writes : goal.returns-clause-writes
returns-clause-writes c =
    λ _. rw (c.in_ok-can_explain_rest.ensures.same, c.in_order-2.ensures.entries) at c.in_ok-explain_rest.ensures.writes

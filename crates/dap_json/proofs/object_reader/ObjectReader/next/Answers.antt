use Rattle.dap_json.proofs.object_reader.ObjectReader.next.Goals as goal

pub returns-clause-member : goal.returns-clause-member
returns-clause-member c =
    let passed = c.in_ok-value.ensures in
    let named = rw c.in-Some.is at c.in_ok-key.ensures.key in
    (passed.0, passed.1, named passed.0 _ passed.2)

use Rattle.std.proofs.Common.{rules, ◌≡◌, Err}
use Rattle.dap_query.proofs.ProtocolLists.{part-told, part-fails}
use Rattle.dap_query.proofs.queries.Queries.answer_variables.Goals as goal

pub returns-in_err-numbers-clause-told : goal.returns-in_err-numbers-clause-told
returns-in_err-numbers-clause-told g c =
    let is : c.from_residual-in_err-numbers.result ≡ Err c.in_err-numbers.field-0.0 = search rules in
    rw is (part-fails _ _ c.args.asked c.in-Some.holder _ _ c.in_ok-variables.variables.items c.in_ok-named.named.items c.in_err-numbers.field-0.0 (search rules) c.part-start.ensures c.in_ok-variables.ensures (search rules) (search rules))

pub returns-clause-told : goal.returns-clause-told
returns-clause-told g c =
    part-told _ _ c.args.asked c.in-Some.holder _ _ c.in_ok-variables.variables.items c.in_ok-named.named.items c.in_ok-numbers.numbers.items _ c.in_ok-variables-2.variables.items (search rules) c.part-start.ensures c.in_ok-variables.ensures (search rules) (search rules) (search rules)

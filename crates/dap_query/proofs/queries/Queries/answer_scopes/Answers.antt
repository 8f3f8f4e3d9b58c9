use Rattle.std.proofs.Common.{rules, ◌≡◌, Err}
use Rattle.dap_query.proofs.ProtocolLists.{scopes-told, scopes-fail}
use Rattle.dap_query.proofs.queries.Queries.answer_scopes.Goals as goal

pub returns-in_err-numbers-clause-told : goal.returns-in_err-numbers-clause-told
returns-in_err-numbers-clause-told g c =
    let is : c.from_residual-in_err-numbers.result ≡ Err c.in_err-numbers.field-0.0 = search rules in
    rw is (scopes-fail _ _ c.args.frame_id c.in-Some.frame c.in_ok-scopes.scopes.items c.in_ok-named.named.items c.in_err-numbers.field-0.0 (search rules) (search rules) (search rules) (search rules))

pub returns-clause-told : goal.returns-clause-told
returns-clause-told g c =
    scopes-told _ _ c.args.frame_id c.in-Some.frame c.in_ok-scopes.scopes.items c.in_ok-named.named.items c.in_ok-numbers.numbers.items _ c.in_ok-scopes-2.scopes.items (search rules) (search rules) (search rules) (search rules) (search rules)

use Rattle.std.proofs.Common.{rules, ◌≡◌, Err}
use Rattle.dap_query.proofs.ProtocolLists.{frames-told, frames-fail}
use Rattle.dap_query.proofs.queries.Queries.answer_stack_trace.Goals as goal

pub returns-in_err-ids-clause-told : goal.returns-in_err-ids-clause-told
returns-in_err-ids-clause-told g c =
    let is : c.from_residual-in_err-ids.result ≡ Err c.in_err-ids.field-0.0 = search rules in
    rw is (frames-fail _ _ c.args.asked c.in_ok-all.all.items c.in_ok-frames.frames.items c.in_ok-named.named.items c.in_err-ids.field-0.0 (search rules) (search rules) (search rules) (search rules))

pub returns-clause-told : goal.returns-clause-told
returns-clause-told g c =
    frames-told _ _ c.args.asked c.in_ok-all.all.items c.in_ok-frames.frames.items c.in_ok-named.named.items c.in_ok-ids.ids.items _ c.in_ok-frames-2.frames.items c.len-total.result (search rules) (search rules) (search rules) (search rules) (search rules) (search rules)

use Rattle.std.proofs.Common.{refl}
use Rattle.dap_stream.proofs.ShowLemmas.{ListedTo-start, all_listed, out_of_memory_first}
use Rattle.dap_stream.proofs.listing.list.Goals as goal

pub returns-in_default : goal.returns-in_default
returns-in_default c = out_of_memory_first c.args.style c.args.limits c.args.bytes.now _

pub returns-in-Ok-list_rest : goal.returns-in-Ok-list_rest
returns-in-Ok-list_rest c =
    all_listed c.args.style c.args.limits c.list_rest.new.frames c.args.bytes.now _ _ c.in-Ok-list_rest.refused c.finish.result c.finish.ensures.ends (c.finish.ensures.under_way c.in-Ok-list_rest.ensures.under_way)
    (c.in-Ok-list_rest.ensures.ok c.args.limits _ (ListedTo-start c.args.style c.args.limits c.in-Ok.frames c.args.bytes.now _ c.in-Ok.ensures.bounds c.in-Ok.ensures.fresh))

pub returns : goal.returns
returns c = c.in-Err.ensures.err c.args.limits _ (ListedTo-start c.args.style c.args.limits c.in-Ok.frames c.args.bytes.now _ c.in-Ok.ensures.bounds c.in-Ok.ensures.fresh)

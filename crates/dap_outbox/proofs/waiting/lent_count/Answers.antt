use Rattle.std.proofs.Common.{rules, length, ap, arith, w64, Fits}
use Rattle.std.proofs.Math.Facts.{Fits-le}
use Rattle.dap_tables.proofs.KeptLemmas.{length-filter}
use Rattle.dap_outbox.specs.Waiting.{is_lent}
use Rattle.dap_outbox.proofs.waiting.lent_count.Goals as goal

pub overflow_add-count : goal.overflow_add-count
overflow_add-count c =
    let all = c.loop-count.invariant in
    let few = length-filter is_lent c.args.kept.now.kept in
    let len = c.len.ensures.len in
    let left = ap length c.in-Some.ensures.steps in
    let fits : Fits w64 c.len.result = search rules in
    Fits-le (omega arith) fits

pub returns-clause-bound : goal.returns-clause-bound
returns-clause-bound c =
    let all = c.loop-count.invariant in
    let few = length-filter is_lent c.args.kept.now.kept in
    omega arith

use Rattle.std.proofs.Common.{length, arith}
use Rattle.dap_tables.specs.PrivateKnownStore.{pairs_of_targets}
use Rattle.dap_tables.proofs.KnownLemmas.{all-then}
use Rattle.dap_tables.proofs.known.add_each.Goals as goal

pub returns-in-Err-clause-full : goal.returns-in-Err-clause-full
returns-in-Err-clause-full c = λ full.
    all-then c.args.room c.in-Some.pair.now c.in-Some.others.now c.loop-pair.rest.now c.args.given.now (pairs_of_targets c.loop-pair.held) (pairs_of_targets c.args.held.now)
    c.in-Some.ensures.cases.0 c.loop-pair.invariant.same (c.in-Err.ensures.full full)

pub returns-in-Err-clause-memory : goal.returns-in-Err-clause-memory
returns-in-Err-clause-memory c = λ refused.
    let here = c.in-Err.ensures.memory refused in
    let more = c.loop-pair.invariant.more in
    let all = all-then (length c.loop-pair.held) c.in-Some.pair.now c.in-Some.others.now c.loop-pair.rest.now c.args.given.now (pairs_of_targets c.loop-pair.held) (pairs_of_targets c.args.held.now)
    c.in-Some.ensures.cases.0 c.loop-pair.invariant.same here.0 in
    (omega arith, omega arith)

use Rattle.std.proofs.Common.{arith}
use Rattle.dap_outbox.proofs.WaitingLemmas.{starting-or-lent}
use Rattle.dap_outbox.proofs.waiting.starting_count.Goals as goal

pub overflow_sub-result : goal.overflow_sub-result
overflow_sub-result c = let all = starting-or-lent c.args.kept.now.kept in let parked = c.parked.ensures.parked in let lent = c.lent_count.ensures.lent in omega arith

pub returns-clause-starting : goal.returns-clause-starting
returns-clause-starting c = let all = starting-or-lent c.args.kept.now.kept in let parked = c.parked.ensures.parked in let lent = c.lent_count.ensures.lent in omega arith

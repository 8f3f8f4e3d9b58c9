use Rattle.std.specs.BTreeMap as tree
use Rattle.std.specs.Ordering.{nat_cmp}
use Rattle.dap_check.proofs.InOrder.{last_inserted}
use Rattle.dap_check.proofs.unanswered.by_line.Goals as goal

pub loop-request-preserved-in_ok-insert : goal.loop-request-preserved-in_ok-insert
loop-request-preserved-in_ok-insert c = λ n.
    last_inserted n c.loop-request.yielded c.in-Some.request (tree.get nat_cmp c.loop-request.lines n) (tree.get nat_cmp c.insert.new.self n) (c.loop-request.invariant n) (c.in_ok-insert.ensures.updates.0 n)

pub loop-request-preserved : goal.loop-request-preserved
loop-request-preserved c = λ n.
    last_inserted n c.loop-request.yielded c.in-Some.request (tree.get nat_cmp c.loop-request.lines n) (tree.get nat_cmp c.insert.new.self n) (c.loop-request.invariant n) (c.in_ok-insert.ensures.updates.0 n)

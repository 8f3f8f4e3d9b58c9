use Rattle.std.proofs.Common.{◌*◌, ap, sym, subst, arith}
use Rattle.dap_tables.specs.declared.seq_tree.Node.{Node}
use Rattle.dap_tables.specs.SeqTree.{IsTaken, pairs_under}
use Rattle.dap_tables.proofs.SeqTreeLemmas.{even-fits, odd-fits, taken-even, taken-odd, pairs_under-none}
use Rattle.dap_tables.proofs.seq_tree.+take.Goals as goal

-- a number that is doubled fits, since it is below this node
pub Node::take_below-overflow_mul-deref_mut : goal.Node::take_below-overflow_mul-deref_mut
Node::take_below-overflow_mul-deref_mut t c =
    let fits = even-fits _ _ c.args.self.now.odd _ _ c.in-Some.ensures c.requires in
    omega (arith, fits, ap (λ (n : Node). n.number) c.deref_mut.ensures.value)

pub Node::take_below-overflow_mul-deref : goal.Node::take_below-overflow_mul-deref
Node::take_below-overflow_mul-deref t c =
    let fits = odd-fits c.args.self.now.even _ _ _ _ c.in-Some-take.ensures c.requires in
    omega (arith, fits, ap (λ (n : Node). n.number) c.deref.ensures)

pub Node::take_below-overflow_add-deref : goal.Node::take_below-overflow_add-deref
Node::take_below-overflow_add-deref t c =
    let fits = odd-fits c.args.self.now.even _ _ _ _ c.in-Some-take.ensures c.requires in
    omega (arith, fits, ap (λ (n : Node). n.number) c.deref.ensures)

pub Node::take_below-returns-in-Some-clause-takes : goal.Node::take_below-returns-in-Some-clause-takes
Node::take_below-returns-in-Some-clause-takes t c =
    let node = c.in-Some.node.value in
    subst (λ (n : Node). IsTaken (pairs_under c.args.self.now.even c.args.self.now.odd) (pairs_under c.take.new.self c.args.self.now.odd) (n.number * 2, n.key)) (sym c.deref_mut.ensures.value)
    (taken-even _ _ c.args.self.now.odd node.number node.key c.in-Some.ensures)

pub Node::take_below-returns-in-Some-take-clause-takes : goal.Node::take_below-returns-in-Some-take-clause-takes
Node::take_below-returns-in-Some-take-clause-takes t c =
    let node = c.in-Some-take.node.value in
    let taken = taken-odd c.args.self.now.even c.take.new.self c.args.self.now.odd c.take-in-None.new.self node.number node.key c.in-None.ensures.0 c.in-None.ensures.1 c.in-Some-take.ensures in
    rw (c.deref.ensures, c.deref_mut-in-Some-take.ensures.value) taken

pub Node::take_below-returns-in-None-take-clause-takes : goal.Node::take_below-returns-in-None-take-clause-takes
Node::take_below-returns-in-None-take-clause-takes t c =
    let even = c.in-None.ensures in
    let odd = c.in-None-take.ensures in
    (pairs_under-none _ _ even.0 odd.0, pairs_under-none _ _ even.1 odd.1)

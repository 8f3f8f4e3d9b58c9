use Rattle.std.proofs.Common.{◌∙◌, sym, arith}
use Rattle.dap_tables.specs.SeqTreeFalls.{length-pairs_under}
use Rattle.dap_tables.proofs.SeqTreeLemmas.{at_node, length-at, not_root, found-even, found-odd, changed-even, changed-odd}
use Rattle.dap_tables.proofs.seq_tree.SeqTree.+insert.Goals as goal

pub insert-requires : goal.insert-requires
insert-requires t c =
    let at = at_node c.self.view_is c.self.invariant c.in-Some.is c.deref_mut.ensures.value in
    let other = not_root at c.args.number c.requires in
    (omega (arith, length-at at), sym (found-even _ _ at c.args.number other c.if-number-eq0.true) ∙ c.requires)

pub insert-requires-else-number-eq0 : goal.insert-requires-else-number-eq0
insert-requires-else-number-eq0 t c =
    let at = at_node c.self.view_is c.self.invariant c.in-Some.is c.deref_mut-else-number-eq0.ensures.value in
    let other = not_root at c.args.number c.requires in
    (omega (arith, length-at at), sym (found-odd _ _ at c.args.number other c.if-number-eq0.false) ∙ c.requires)

pub invariant_of-self-then-number-eq0 : goal.invariant_of-self-then-number-eq0
invariant_of-self-then-number-eq0 t c =
    let at = at_node c.self.view_is c.self.invariant c.in-Some.is c.deref_mut.ensures.value in
    let other = not_root at c.args.number c.requires in
    (changed-even _ _ at c.args.number other _ _ (omega arith) c.if-number-eq0.true c.insert.ensures.gets).below

pub invariant_of-self-else-number-eq0 : goal.invariant_of-self-else-number-eq0
invariant_of-self-else-number-eq0 t c =
    let at = at_node c.self.view_is c.self.invariant c.in-Some.is c.deref_mut-else-number-eq0.ensures.value in
    let other = not_root at c.args.number c.requires in
    (changed-odd _ _ at c.args.number other _ _ (omega arith) c.if-number-eq0.false c.insert-else-number-eq0.ensures.gets).below

pub returns-then-number-eq0-clause-gets : goal.returns-then-number-eq0-clause-gets
returns-then-number-eq0-clause-gets t c =
    let at = at_node c.self.view_is c.self.invariant c.in-Some.is c.deref_mut.ensures.value in
    let other = not_root at c.args.number c.requires in
    (changed-even _ _ at c.args.number other _ _ (omega arith) c.if-number-eq0.true c.insert.ensures.gets).gets

pub returns-else-number-eq0-clause-gets : goal.returns-else-number-eq0-clause-gets
returns-else-number-eq0-clause-gets t c =
    let at = at_node c.self.view_is c.self.invariant c.in-Some.is c.deref_mut-else-number-eq0.ensures.value in
    let other = not_root at c.args.number c.requires in
    (changed-odd _ _ at c.args.number other _ _ (omega arith) c.if-number-eq0.false c.insert-else-number-eq0.ensures.gets).gets

pub returns-then-number-eq0-clause-len : goal.returns-then-number-eq0-clause-len
returns-then-number-eq0-clause-len t c =
    let at = at_node c.self.view_is c.self.invariant c.in-Some.is c.deref_mut.ensures.value in
    omega (arith, length-at at, c.insert.ensures.len, length-pairs_under c.insert.new.self c.deref_mut.result.now.odd)

pub returns-else-number-eq0-clause-len : goal.returns-else-number-eq0-clause-len
returns-else-number-eq0-clause-len t c =
    let at = at_node c.self.view_is c.self.invariant c.in-Some.is c.deref_mut-else-number-eq0.ensures.value in
    omega (arith, length-at at, c.insert-else-number-eq0.ensures.len, length-pairs_under c.deref_mut-else-number-eq0.result.now.even c.insert-else-number-eq0.new.self)

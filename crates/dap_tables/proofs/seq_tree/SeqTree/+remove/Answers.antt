use Rattle.std.proofs.Common.{◌∙◌, sym, refl, arith}
use Rattle.dap_tables.specs.SeqTreeFalls.{length-pairs_under}
use Rattle.dap_tables.proofs.SeqTreeLemmas.{at_node, length-at, found-even, found-odd, changed-even, changed-odd, on_some}
use Rattle.dap_tables.proofs.seq_tree.SeqTree.+remove.Goals as goal

pub invariant_of-self-then-deref-number : goal.invariant_of-self-then-deref-number
invariant_of-self-then-deref-number t c = (at_node c.self.view_is c.self.invariant c.in-Some.is refl).below

-- the even side
pub invariant_of-self-then-number-eq0 : goal.invariant_of-self-then-number-eq0
invariant_of-self-then-number-eq0 t c =
    let at = at_node c.self.view_is c.self.invariant c.in-Some.is c.deref_mut.ensures.value in
    (changed-even _ _ at c.args.number (λ same. c.if-deref-number.false (cc)) _ _ (omega arith) c.if-number-eq0.true c.remove.ensures.gets).below

pub returns-then-number-eq0-clause-key : goal.returns-then-number-eq0-clause-key
returns-then-number-eq0-clause-key t c =
    let at = at_node c.self.view_is c.self.invariant c.in-Some.is c.deref_mut.ensures.value in
    c.remove.ensures.key ∙ sym (found-even _ _ at c.args.number (λ same. c.if-deref-number.false (cc)) c.if-number-eq0.true)

pub returns-then-number-eq0-clause-gets : goal.returns-then-number-eq0-clause-gets
returns-then-number-eq0-clause-gets t c =
    let at = at_node c.self.view_is c.self.invariant c.in-Some.is c.deref_mut.ensures.value in
    (changed-even _ _ at c.args.number (λ same. c.if-deref-number.false (cc)) _ _ (omega arith) c.if-number-eq0.true c.remove.ensures.gets).gets

pub returns-then-number-eq0-clause-len : goal.returns-then-number-eq0-clause-len
returns-then-number-eq0-clause-len t c =
    let at = at_node c.self.view_is c.self.invariant c.in-Some.is c.deref_mut.ensures.value in
    on_some c.remove.result (λ shorter. omega (arith, length-at at, shorter, length-pairs_under c.remove.new.self c.deref_mut.result.now.odd)) c.remove.ensures.len

-- the odd side
pub invariant_of-self-in-Some : goal.invariant_of-self-in-Some
invariant_of-self-in-Some t c =
    let at = at_node c.self.view_is c.self.invariant c.in-Some.is c.deref_mut-in-Some.ensures.value in
    (changed-odd _ _ at c.args.number (λ same. c.if-deref-number.false (cc)) _ _ (omega arith) c.if-number-eq0.false c.remove-in-Some.ensures.gets).below

pub returns-else-number-eq0-clause-key : goal.returns-else-number-eq0-clause-key
returns-else-number-eq0-clause-key t c =
    let at = at_node c.self.view_is c.self.invariant c.in-Some.is c.deref_mut-in-Some.ensures.value in
    c.remove-in-Some.ensures.key ∙ sym (found-odd _ _ at c.args.number (λ same. c.if-deref-number.false (cc)) c.if-number-eq0.false)

pub returns-else-number-eq0-clause-gets : goal.returns-else-number-eq0-clause-gets
returns-else-number-eq0-clause-gets t c =
    let at = at_node c.self.view_is c.self.invariant c.in-Some.is c.deref_mut-in-Some.ensures.value in
    (changed-odd _ _ at c.args.number (λ same. c.if-deref-number.false (cc)) _ _ (omega arith) c.if-number-eq0.false c.remove-in-Some.ensures.gets).gets

pub returns-else-number-eq0-clause-len : goal.returns-else-number-eq0-clause-len
returns-else-number-eq0-clause-len t c =
    let at = at_node c.self.view_is c.self.invariant c.in-Some.is c.deref_mut-in-Some.ensures.value in
    on_some c.remove-in-Some.result (λ shorter. omega (arith, length-at at, shorter, length-pairs_under c.deref_mut-in-Some.result.now.even c.remove-in-Some.new.self)) c.remove-in-Some.ensures.len

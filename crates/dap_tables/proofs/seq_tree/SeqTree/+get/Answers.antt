use Rattle.std.proofs.Common.{◌∙◌, sym}
use Rattle.dap_tables.proofs.SeqTreeLemmas.{at_node, found-even, found-odd}
use Rattle.dap_tables.proofs.seq_tree.SeqTree.+get.Goals as goal

pub returns-then-number-eq0 : goal.returns-then-number-eq0
returns-then-number-eq0 t c =
    let at = at_node c.self.view_is c.self.invariant c.in-Some.is c.deref-then-number-eq0.ensures in
    c.get.ensures ∙ sym (found-even _ _ at c.args.number (λ same. c.if-deref-number.false (cc)) c.if-number-eq0.true)

pub returns : goal.returns
returns t c =
    let at = at_node c.self.view_is c.self.invariant c.in-Some.is c.deref-2.ensures in
    c.get-2.ensures ∙ sym (found-odd _ _ at c.args.number (λ same. c.if-deref-number.false (cc)) c.if-number-eq0.false)

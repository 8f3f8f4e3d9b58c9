use Rattle.std.proofs.Common.{refl, [], sym, subst}
use Rattle.dap_tables.specs.declared.seq_tree.Node.{Node}
use Rattle.dap_tables.specs.SeqTree.{pairs_under, IsBelow}
use Rattle.dap_tables.proofs.SeqTreeLemmas.{pairs_under-none}
use Rattle.dap_tables.proofs.seq_tree.SeqTree.alone.Goals as goal

pub returns : goal.returns
returns c = rw (c.new.ensures, pairs_under-none [] [] refl refl) refl

pub invariant_of-result : goal.invariant_of-result
invariant_of-result c = subst (λ (n : Node). IsBelow (pairs_under n.even n.odd) n.number) (sym c.new.ensures) (rw (pairs_under-none [] [] refl refl) (record { apart = refl; fits = λ q large. refl }))

-- Each side of a node has fewer pairs than the tree.
use Rattle.std.specs.Prelude.{◌≡◌, ℕ, ◌+◌, List, map, length}
use Rattle.std.proofs.Common.{arith, length-append}
use Rattle.std.proofs.lemmas.List.{length-map}
use Rattle.dap_tables.specs.SeqTree.{pair_above, pairs_under}

pub length-pairs_under : (even odd : List (ℕ × ℕ)) → length (pairs_under even odd) ≡ length even + length odd
unfolding pairs_under
length-pairs_under even odd = omega (arith, length-append (map (pair_above 0) even) (map (pair_above 1) odd), length-map even (pair_above 0), length-map odd (pair_above 1))

-- What is found in a tree of numbers, what a change of a side leaves, and what goes first.
use Rattle.std.proofs.Common.{◌≡◌, ◌≢◌, ◌⊎◌, ℕ, ◌+◌, ◌*◌, ◌/◌, ◌%◌, ◌^◌, ◌<◌, List, [], ◌∷◌, ◌++◌, map, length, Option, Some, None, OnSome, refl, sym, ap, ◌∙◌, subst, inl, inr, Box, arith}
use Rattle.std.proofs.lemmas.Bool.Decides.{nat_tests}
use Rattle.std.specs.declared.alloc.Global.{Global}
use Rattle.dap_tables.specs.declared.seq_tree.Node.{Node}
use Rattle.dap_tables.specs.SeqIndex.{key_for, Gets}
use Rattle.dap_tables.specs.SeqTree.{pair_above, pair_of_node, pairs_of_side, pairs_under, Fits, IsBelow, IsSoundSide, IsTaken, first_pair}
use Rattle.dap_tables.specs.SeqTreeFalls.{length-pairs_under}

-- ---- look-ups

-- no even number is on the odd side
no_even : (q : ℕ) (odd : List (ℕ × ℕ)) → key_for (q * 2) (map (pair_above 1) odd) ≡ None
no_even q [] = refl
no_even q (pair ∷ odd) = grind (arith, nat_tests, no_even q odd)

only_odd : (q : ℕ) (odd : List (ℕ × ℕ)) → key_for (q * 2 + 1) (map (pair_above 1) odd) ≡ key_for q odd
only_odd q [] = refl
only_odd q (pair ∷ odd) = grind (arith, nat_tests, only_odd q odd)

-- an even number is found on the even side
pub key_for-even : (q : ℕ) (even odd : List (ℕ × ℕ)) → key_for (q * 2) (pairs_under even odd) ≡ key_for q even
unfolding pairs_under
key_for-even q [] odd = no_even q odd
key_for-even q (pair ∷ even) odd = let rest : key_for (q * 2) (map (pair_above 0) even ++ map (pair_above 1) odd) ≡ key_for q even = key_for-even q even odd in grind (arith, nat_tests)

-- an odd number is found on the odd side
pub key_for-odd : (q : ℕ) (even odd : List (ℕ × ℕ)) → key_for (q * 2 + 1) (pairs_under even odd) ≡ key_for q odd
unfolding pairs_under
key_for-odd q [] odd = only_odd q odd
key_for-odd q (pair ∷ even) odd = let rest : key_for (q * 2 + 1) (map (pair_above 0) even ++ map (pair_above 1) odd) ≡ key_for q odd = key_for-odd q even odd in grind (arith, nat_tests)

-- the first pair is found
first_found : (pairs : List (ℕ × ℕ)) (pair : ℕ × ℕ) → first_pair pairs ≡ Some pair → key_for pair.0 pairs ≡ Some pair.1
first_found [] pair is = cc
first_found (x ∷ pairs) pair is = let same : x ≡ pair = cc in subst (λ (p : ℕ × ℕ). key_for p.0 (x ∷ pairs) ≡ Some p.1) same (grind (arith, nat_tests))

-- ---- a change of a side

-- a number is twice its half, or one more
halved : (n : ℕ) → (n ≡ n / 2 * 2) ⊎ (n ≡ n / 2 * 2 + 1)
halved n = grind arith

pub gets-even : (even new odd : List (ℕ × ℕ)) (q : ℕ) (key : Option ℕ) → Gets even new q key → Gets (pairs_under even odd) (pairs_under new odd) (q * 2) key
gets-even even new odd q key gets other = elim (halved other) [
  | inl is ↦ rw is (rw (key_for-even (other / 2) new odd, key_for-even (other / 2) even odd) (grind (arith, nat_tests, gets (other / 2))))
  | inr is ↦ rw is (rw (key_for-odd (other / 2) new odd, key_for-odd (other / 2) even odd) (grind (arith, nat_tests)))
]

pub gets-odd : (even odd new : List (ℕ × ℕ)) (q : ℕ) (key : Option ℕ) → Gets odd new q key → Gets (pairs_under even odd) (pairs_under even new) (q * 2 + 1) key
gets-odd even odd new q key gets other = elim (halved other) [
  | inl is ↦ rw is (rw (key_for-even (other / 2) even new, key_for-even (other / 2) even odd) (grind (arith, nat_tests)))
  | inr is ↦ rw is (rw (key_for-odd (other / 2) even new, key_for-odd (other / 2) even odd) (grind (arith, nat_tests, gets (other / 2))))
]

-- ---- at a node

-- the pairs of a tree whose root this is
pub record AtNode (pairs : List (ℕ × ℕ)) (node : Node) : Type 0 where
  pub is : pairs ≡ pair_of_node node ∷ pairs_under node.even node.odd
  pub below : IsBelow (pairs_under node.even node.odd) node.number

pub at_node : {root : Option (Box Node Global)} {pairs : List (ℕ × ℕ)} {held : Box Node Global} {node : Node} → pairs_of_side root ≡ pairs → IsSoundSide root → root ≡ Some held → node ≡ held.value → AtNode pairs node
at_node {root} {pairs} {held} {node} view_is sound is same = subst (λ (n : Node). AtNode pairs n) (sym same) (record { is = sym view_is ∙ ap pairs_of_side is; below = subst IsSoundSide is sound })

pub length-at : {pairs : List (ℕ × ℕ)} {node : Node} → AtNode pairs node → length pairs ≡ length node.even + length node.odd + 1
length-at {pairs} {node} at = rw (at.is) (omega (arith, length-pairs_under node.even node.odd))

-- a number that is not there is not the root's
pub not_root : {pairs : List (ℕ × ℕ)} {node : Node} → AtNode pairs node → (number : ℕ) → key_for number pairs ≡ None → node.number ≢ number
not_root {pairs} {node} at number none same = let absent = rw (at.is) at none in grind (arith, nat_tests)

-- what a change of the pairs below the root leaves
pub record IsChanged (pairs : List (ℕ × ℕ)) (node : Node) (under : List (ℕ × ℕ)) (number : ℕ) (key : Option ℕ) : Type 0 where
  pub below : IsBelow under node.number
  pub gets : Gets pairs (pair_of_node node ∷ under) number key

module _ (pairs : List (ℕ × ℕ)) (node : Node) (at : AtNode pairs node) (number : ℕ) (other : node.number ≢ number) where
  -- another number than the root's is found on its side
  pub found-even : number % 2 ≡ 0 → key_for number pairs ≡ key_for (number / 2) node.even
  found-even bit =
      let is : number / 2 * 2 ≡ number = omega arith in
      let found = subst (λ (n : ℕ). key_for n (pairs_under node.even node.odd) ≡ key_for (number / 2) node.even) is (key_for-even (number / 2) node.even node.odd) in
      rw (at.is) (grind (arith, nat_tests))

  pub found-odd : number % 2 ≢ 0 → key_for number pairs ≡ key_for (number / 2) node.odd
  found-odd bit =
      let is : number / 2 * 2 + 1 ≡ number = omega arith in
      let found = subst (λ (n : ℕ). key_for n (pairs_under node.even node.odd) ≡ key_for (number / 2) node.odd) is (key_for-odd (number / 2) node.even node.odd) in
      rw (at.is) (grind (arith, nat_tests))

  changed : (under : List (ℕ × ℕ)) (key : Option ℕ) (n : ℕ) → n ≡ number → number < 2 ^ 64 → Gets (pairs_under node.even node.odd) under n key → IsChanged pairs node under number key
  changed under key n is small gets = record {
    below = record {
      apart = grind (arith, nat_tests, gets node.number, at.below.apart);
      fits = λ q large. grind (arith, nat_tests, gets q, at.below.fits q large);
    };
    gets = λ q. rw (at.is) (grind (arith, nat_tests, gets q));
  }

  -- and changed there
  pub changed-even : (new : List (ℕ × ℕ)) (key : Option ℕ) → number < 2 ^ 64 → number % 2 ≡ 0 → Gets node.even new (number / 2) key → IsChanged pairs node (pairs_under new node.odd) number key
  changed-even new key small bit gets = changed (pairs_under new node.odd) key _ (omega arith) small (gets-even node.even new node.odd (number / 2) key gets)

  pub changed-odd : (new : List (ℕ × ℕ)) (key : Option ℕ) → number < 2 ^ 64 → number % 2 ≢ 0 → Gets node.odd new (number / 2) key → IsChanged pairs node (pairs_under node.even new) number key
  changed-odd new key small bit gets = changed (pairs_under node.even new) key _ (omega arith) small (gets-odd node.even node.odd new (number / 2) key gets)

-- ---- the first pair goes

module _ (even new odd : List (ℕ × ℕ)) (number key : ℕ) (taken : IsTaken even new (number, key)) where
  -- the first number of the even side fits when it is doubled
  pub even-fits : Fits (pairs_under even odd) → number * 2 < 2 ^ 64
  even-fits fits = grind (arith, first_found even (number, key) taken.first, key_for-even number even odd, fits (number * 2))

module _ (even odd new : List (ℕ × ℕ)) (number key : ℕ) (taken : IsTaken odd new (number, key)) where
  -- and that of the odd side when one is added then
  pub odd-fits : Fits (pairs_under even odd) → number * 2 + 1 < 2 ^ 64
  odd-fits fits = grind (arith, first_found odd (number, key) taken.first, key_for-odd number even odd, fits (number * 2 + 1))

first_even : (even odd : List (ℕ × ℕ)) (number key : ℕ) → first_pair even ≡ Some (number, key) → first_pair (pairs_under even odd) ≡ Some (number * 2, key)
unfolding pairs_under
first_even [] odd number key is = cc
first_even (pair ∷ even) odd number key is = grind arith

first_odd : (odd : List (ℕ × ℕ)) (number key : ℕ) → first_pair odd ≡ Some (number, key) → first_pair (pairs_under [] odd) ≡ Some (number * 2 + 1, key)
unfolding pairs_under
first_odd [] number key is = cc
first_odd (pair ∷ odd) number key is = grind arith

-- the first pair of the even side is the first of both
pub taken-even : (even new odd : List (ℕ × ℕ)) (number key : ℕ) → IsTaken even new (number, key) → IsTaken (pairs_under even odd) (pairs_under new odd) (number * 2, key)
taken-even even new odd number key taken = record {
  first = first_even even odd number key taken.first;
  gets = gets-even even new odd number None taken.gets;
  len = omega (arith, taken.len, length-pairs_under even odd, length-pairs_under new odd);
}

-- that of the odd side is, where the even side has none
taken_odd : (odd new : List (ℕ × ℕ)) (number key : ℕ) → IsTaken odd new (number, key) → IsTaken (pairs_under [] odd) (pairs_under [] new) (number * 2 + 1, key)
taken_odd odd new number key taken = record {
  first = first_odd odd number key taken.first;
  gets = gets-odd [] odd new number None taken.gets;
  len = omega (arith, taken.len, length-pairs_under [] odd, length-pairs_under [] new);
}

pub taken-odd : (even left odd new : List (ℕ × ℕ)) (number key : ℕ) → even ≡ [] → left ≡ [] → IsTaken odd new (number, key) → IsTaken (pairs_under even odd) (pairs_under left new) (number * 2 + 1, key)
taken-odd even left odd new number key none same taken = rw (none, same) (taken_odd odd new number key taken)

-- no pairs on either side
pub pairs_under-none : (even odd : List (ℕ × ℕ)) → even ≡ [] → odd ≡ [] → pairs_under even odd ≡ []
unfolding pairs_under
pairs_under-none even odd no_even no_odd = rw (no_even, no_odd) refl

-- what follows where there is a value
pub on_some : {X : Type 0} {P Q : Type 0} (o : Option X) → (P → Q) → OnSome o P → OnSome o Q
on_some None f p = tt
on_some (Some x) f p = f p

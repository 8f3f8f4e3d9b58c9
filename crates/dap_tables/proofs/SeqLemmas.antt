-- What the calls give, one after the other.
use Rattle.std.proofs.Common.{◌≡◌, ℕ, zero, suc, ◌+◌, List, ◌∷◌, ◌++◌, Option, Some, None, map, replicate, refl, ap, arith, subst}
use Rattle.std.specs.Prelude.{nat_lt, true, false}
use Rattle.std.specs.List.{range_with_len}
use Rattle.std.proofs.lemmas.Bool.Decides.{nat_tests}
use Rattle.dap_tables.specs.Seq.{answers, CountsTo}

done : (used : ℕ) → nat_lt used used ≡ false
done used = grind (arith, nat_tests)

below : (used left : ℕ) → nat_lt used (used + suc left) ≡ true
below used left = grind (arith, nat_tests)

-- once all were given
answers-done : (calls used : ℕ) → answers calls (record { last = used; used = used }) ≡ replicate calls None
answers-done zero used = refl
answers-done (suc calls) used = rw (done used) (ap (λ (rest : List (Option ℕ)). None ∷ rest) (answers-done calls used))

answers-left : (left used more : ℕ) → answers (left + more) (record { last = used + left; used = used }) ≡ map Some (range_with_len (used + 1) left) ++ replicate more None
answers-left zero used more =
    let no_more : 0 + more ≡ more = omega arith in
    let same : used + 0 ≡ used = omega arith in
    rw (no_more, same) (answers-done more used)
answers-left (suc left) used more =
    let one_more : suc left + more ≡ suc (left + more) = omega arith in
    let further : used + suc left ≡ used + 1 + left = omega arith in
    rw one_more (rw (below used left) (ap (λ (rest : List (Option ℕ)). Some (used + 1) ∷ rest) (rw further (answers-left left (used + 1) more))))

pub CountsTo-opened : (last : ℕ) → CountsTo last (record { last = last; used = 0 })
CountsTo-opened last more =
    let same : 0 + last ≡ last = omega arith in
    subst (λ (n : ℕ). answers (last + more) (record { last = n; used = 0 }) ≡ map Some (range_with_len 1 last) ++ replicate more None) same (answers-left last 0 more)

pub ruleset counting = (CountsTo-opened)

-- The first place where a test passes, by recursion on the list.
use Rattle.std.proofs.Common.{◌≡◌, ℕ, suc, ◌+◌, ◌<◌, List, [], ◌∷◌, ◌++◌, Bool, true, false, not, cond, length, Option, Some, None, option_map, position, refl, sym, ap, ◌∙◌, arith, if◌then◌else◌}
use Rattle.std.specs.Prelude.{nat_lt}
use Rattle.std.specs.List.{position_or_len}
use Rattle.std.proofs.lemmas.Bool.Decides.{nat_tests}

pub lt-true : (a b : ℕ) → a < b → nat_lt a b ≡ true
lt-true a b h = grind (arith, nat_tests)

lt-suc : (a b : ℕ) → nat_lt (1 + a) (suc b) ≡ nat_lt a b
lt-suc a b = grind (arith, nat_tests)

abbrev pub or_else : Option ℕ → Option ℕ → Option ℕ
or_else None other = other
or_else (Some k) other = Some k

module _ {X : Type 0} (p : X → Bool) where
  abbrev pub place_in : List X → Option ℕ
  place_in [] = None
  place_in (x ∷ xs) = if p x then Some 0 else option_map (λ k. suc k) (place_in xs)

  later : (b : Bool) (n m : ℕ) → nat_lt n m ≡ b → cond (nat_lt (1 + n) (suc m)) (Some (1 + n)) None ≡ option_map (λ k. suc k) (cond b (Some n) None)
  later true n m h = rw (lt-suc n m ∙ h) (ap (λ k. Some k) (omega arith))
  later false n m h = rw (lt-suc n m ∙ h) refl

  first : (b : Bool) (n m : ℕ) (rest : Option ℕ) → cond (nat_lt n m) (Some n) None ≡ rest
      → cond (nat_lt (cond (not b) (1 + n) 0) (suc m)) (Some (cond (not b) (1 + n) 0)) None ≡ (if b then Some 0 else option_map (λ k. suc k) rest)
  first true n m rest h = rw (lt-true 0 (suc m) (omega arith)) refl
  first false n m rest h = later (nat_lt n m) n m refl ∙ ap (λ o. option_map (λ k. suc k) o) h

  pub is_place : (xs : List X) → position p xs ≡ place_in xs
  is_place [] = refl
  is_place (x ∷ xs) = first (p x) (position_or_len p xs) (length xs) (place_in xs) (is_place xs)

  -- ---- one more at the end

  end_by : (b : Bool) → (if b then Some 0 else option_map (λ k. suc k) None) ≡ or_else None (cond b (Some 0) None)
  end_by true = refl
  end_by false = refl

  more_by : (b c : Bool) (o : Option ℕ) (n : ℕ) → (if b then Some 0 else option_map (λ k. suc k) (or_else o (cond c (Some n) None))) ≡ or_else (if b then Some 0 else option_map (λ k. suc k) o) (cond c (Some (suc n)) None)
  more_by true c o n = refl
  more_by false c (Some k) n = refl
  more_by false true None n = refl
  more_by false false None n = refl

  more_in : (xs : List X) (y : X) → place_in (xs ++ y ∷ []) ≡ or_else (place_in xs) (cond (p y) (Some (length xs)) None)
  more_in [] y = end_by (p y)
  more_in (x ∷ xs) y = ap (λ o. if p x then Some 0 else option_map (λ k. suc k) o) (more_in xs y) ∙ more_by (p x) (p y) (place_in xs) (length xs)

  pub place-push : (xs : List X) (y : X) → position p (xs ++ y ∷ []) ≡ or_else (position p xs) (cond (p y) (Some (length xs)) None)
  place-push xs y = is_place (xs ++ y ∷ []) ∙ more_in xs y ∙ ap (λ o. or_else o (cond (p y) (Some (length xs)) None)) (sym (is_place xs))

  -- ---- nowhere

  absent-by : (b : Bool) (o : Option ℕ) → (if b then Some 0 else option_map (λ k. suc k) o) ≡ None → o ≡ None
  absent-by true o h = cc
  absent-by false None h = refl
  absent-by false (Some k) h = cc

  pub absent-tail : (x : X) (xs : List X) → position p (x ∷ xs) ≡ None → position p xs ≡ None
  absent-tail x xs h = is_place xs ∙ absent-by (p x) (place_in xs) (sym (is_place (x ∷ xs)) ∙ h)

  head-by : (b : Bool) (o : Option ℕ) → (if b then Some 0 else option_map (λ k. suc k) o) ≡ None → b ≡ false
  head-by true o h = cc
  head-by false o h = refl

  pub absent-head : (x : X) (xs : List X) → position p (x ∷ xs) ≡ None → p x ≡ false
  absent-head x xs h = head-by (p x) (place_in xs) (sym (is_place (x ∷ xs)) ∙ h)

  left-by : (o q : Option ℕ) → or_else o q ≡ None → o ≡ None
  left-by None q h = refl
  left-by (Some k) q h = cc

  pub absent-front : (xs : List X) (y : X) → position p (xs ++ y ∷ []) ≡ None → position p xs ≡ None
  absent-front xs y h = left-by (position p xs) (cond (p y) (Some (length xs)) None) (sym (place-push xs y) ∙ h)

  cons-by : (b : Bool) (o : Option ℕ) → b ≡ false → o ≡ None → (if b then Some 0 else option_map (λ k. suc k) o) ≡ None
  cons-by b o h k = rw (h, k) refl

  pub absent-cons : (x : X) (xs : List X) → p x ≡ false → position p xs ≡ None → position p (x ∷ xs) ≡ None
  absent-cons x xs h none = is_place (x ∷ xs) ∙ cons-by (p x) (place_in xs) h (sym (is_place xs) ∙ none)

  last-by : (o : Option ℕ) (b : Bool) (n : ℕ) → or_else o (cond b (Some n) None) ≡ None → b ≡ false
  last-by None true n h = cc
  last-by None false n h = refl
  last-by (Some k) b n h = cc

  pub absent-last : (xs : List X) (y : X) → position p (xs ++ y ∷ []) ≡ None → p y ≡ false
  absent-last xs y h = last-by (position p xs) (p y) (length xs) (sym (place-push xs y) ∙ h)

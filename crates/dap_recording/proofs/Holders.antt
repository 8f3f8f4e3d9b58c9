-- How the variables of holders are stored.
use Rattle.std.proofs.Common.{◌≡◌, ℕ, Bool, true, false, cond, List, [], ◌∷◌, map, Option, Some, option_map, if◌then◌else◌, nat_eq, nat_lt, Vec, refl, sym, ap, ◌∙◌, arith}
use Rattle.std.proofs.lemmas.Bool.Decides.{nat_tests}
use Rattle.std.specs.BTreeMap.{insert_entry, is_at}
use Rattle.std.specs.Map.{lookup}
use Rattle.std.specs.Ordering.{is_eq, match_ordering, nat_cmp}
use Rattle.std.specs.declared.cmp.Ordering.TheVariants.{Less, Equal, Greater}
use Rattle.dap_debuggee.specs.declared.answers.Variable.{Variable}
use Rattle.dap_recording.specs.PrivateHolders.{of_holder}
use Rattle.dap_recording.specs.Variables.{OfHolder, variables_at, with_variables}

less-apart : (m n : ℕ) → nat_lt m n ≡ true → nat_eq m n ≡ false
less-apart m n h = grind (arith, nat_tests)

eq-by : (b c : Bool) → (b ≡ true → c ≡ false) → is_eq (cond b Less (cond c Equal Greater)) ≡ c
eq-by true c h = sym (h refl)
eq-by false true h = refl
eq-by false false h = refl

eq-cmp : (m n : ℕ) → is_eq (nat_cmp m n) ≡ nat_eq m n
eq-cmp m n = eq-by (nat_lt m n) (nat_eq m n) (less-apart m n)

module _ {A : Type 0} where
  inserted-by : (b c : Bool) (k : ℕ) (v : Vec Variable A) (e : ℕ × Vec Variable A) (es : List (ℕ × Vec Variable A)) → map of_holder (insert_entry nat_cmp es k v) ≡ with_variables k v.items (map of_holder es)
      → map of_holder (match_ordering (cond b Less (cond c Equal Greater)) ((k, v) ∷ e ∷ es) ((e.0, v) ∷ es) (e ∷ insert_entry nat_cmp es k v))
      ≡ (if b then record { holder = k; variables = v.items } ∷ of_holder e ∷ map of_holder es else (if c then record { holder = e.0; variables = v.items } ∷ map of_holder es else of_holder e ∷ with_variables k v.items (map of_holder es)))
  inserted-by true c k v e es rest = refl
  inserted-by false true k v e es rest = refl
  inserted-by false false k v e es rest = ap (λ (cs : List OfHolder). of_holder e ∷ cs) rest

  pub inserted : (es : List (ℕ × Vec Variable A)) (k : ℕ) (v : Vec Variable A) → map of_holder (insert_entry nat_cmp es k v) ≡ with_variables k v.items (map of_holder es)
  inserted [] k v = refl
  inserted (e ∷ es) k v = inserted-by (nat_lt k e.0) (nat_eq k e.0) k v e es (inserted es k v)

  items-by : (b : Bool) (v : Vec Variable A) (o : Option (Vec Variable A)) (rest : Option (List Variable)) → option_map (λ (x : Vec Variable A). x.items) o ≡ rest → option_map (λ (x : Vec Variable A). x.items) (cond b (Some v) o) ≡ (if b then Some v.items else rest)
  items-by true v o rest h = refl
  items-by false v o rest h = h

  pub looked_up : (h : ℕ) (es : List (ℕ × Vec Variable A)) → option_map (λ (x : Vec Variable A). x.items) (lookup (is_at (nat_cmp h)) es) ≡ variables_at h (map of_holder es)
  looked_up h [] = refl
  looked_up h (e ∷ es) =
      items-by (is_eq (nat_cmp h e.0)) e.1 (lookup (is_at (nat_cmp h)) es) (variables_at h (map of_holder es)) (looked_up h es)
      ∙ ap (λ b. if b then Some e.1.items else variables_at h (map of_holder es)) (eq-cmp h e.0)

-- Each number of a holder is that of one scope or of one variable of what a recording shows.
use Rattle.std.proofs.Common.{◌≡◌, ◌≤◌, ◌+◌, ◌⊎◌, inl, inr, arith, map, cond, ℕ, zero, suc, nat_eq, List, [], ◌∷◌, Option, Some, eq-eqb, refl, sym, ap, ◌∙◌, subst}
use Rattle.std.proofs.lemmas.List.Sums.{sum_by-cons, sum_by-append}
use Rattle.std.specs.List.{slice_get, flat_map, sum_by, count_by}
use Rattle.std.specs.Option.{option_to_list}
use Rattle.dap_debuggee.specs.declared.answers.Scope.{Scope}
use Rattle.dap_debuggee.specs.declared.answers.Variable.{Variable}
use Rattle.dap_replay.specs.ShownNumbers.{NamesOneHolder}
use Rattle.dap_replay.specs.Played.{Played, shown_of, moment_shown, variables_held}
use Rattle.dap_recording.specs.Recording.{IsRecording, holders_of_scopes, holders_of_variables}
use Rattle.dap_replay.specs.PlayedLaws.{found-within}
use Rattle.dap_replay.specs.PrivateHeld.{KeepHolders}
use Rattle.dap_replay.proofs.Changed.{RecordedAt, recorded-at}
use Rattle.dap_recording.proofs.ReadSteps.{some_same}

-- ---- one place or two

-- one element has no more than all have
one_of : {A : Type 0} (w : A → ℕ) (xs : List A) (i : ℕ) (x : A) → slice_get xs i ≡ Some x → w x ≤ sum_by w xs
one_of w [] i x is = absurd (cc is)
one_of w (z ∷ xs) zero x is = let same : w z ≡ w x = ap w (some_same z x is) in omega (arith, sum_by-cons w z xs, same)
one_of w (z ∷ xs) (suc i) x is = omega (arith, sum_by-cons w z xs, one_of w xs i x is)

further : {A : Type 0} (w : A → ℕ) (z x y : A) (xs : List A) (i j : ℕ) → (i ≡ j) ⊎ (w x + w y ≤ sum_by w xs) → (suc i ≡ suc j) ⊎ (w x + w y ≤ sum_by w (z ∷ xs))
further w z x y xs i j (inl same) = inl (ap suc same)
further w z x y xs i j (inr less) = inr (omega (arith, sum_by-cons w z xs, less))

-- nor have two elements at different places
two_of : {A : Type 0} (w : A → ℕ) (xs : List A) (i j : ℕ) (x y : A) → slice_get xs i ≡ Some x → slice_get xs j ≡ Some y → (i ≡ j) ⊎ (w x + w y ≤ sum_by w xs)
two_of w [] i j x y at_x at_y = absurd (cc at_x)
two_of w (z ∷ xs) zero zero x y at_x at_y = inl refl
two_of w (z ∷ xs) zero (suc j) x y at_x at_y = let same : w z ≡ w x = ap w (some_same z x at_x) in inr (omega (arith, sum_by-cons w z xs, same, one_of w xs j y at_y))
two_of w (z ∷ xs) (suc i) zero x y at_x at_y = let same : w z ≡ w y = ap w (some_same z y at_y) in inr (omega (arith, sum_by-cons w z xs, same, one_of w xs i x at_x))
two_of w (z ∷ xs) (suc i) (suc j) x y at_x at_y = further w z x y xs i j (two_of w xs i j x y at_x at_y)

-- ---- how often a number is there

-- 1 where they are equal
abbrev is_it : ℕ → ℕ → ℕ
is_it n m = cond (nat_eq n m) 1 0

it_is : (n m : ℕ) → m ≡ n → 1 ≤ is_it n m
it_is n m same = let here : is_it n m ≡ 1 = ap (λ b. cond b 1 0) (eq-eqb n m (sym same)) in omega (arith, here)

it_is_given : (n : ℕ) (o : Option ℕ) → o ≡ Some n → 1 ≤ count_by (nat_eq n) (option_to_list o)
it_is_given n o same = subst (λ p. 1 ≤ count_by (nat_eq n) (option_to_list p)) (sym same) (omega (arith, it_is n n refl))

count-flat_map : {A : Type 0} (n : ℕ) (g : A → List ℕ) (xs : List A) → count_by (nat_eq n) (flat_map g xs) ≡ sum_by (λ x. count_by (nat_eq n) (g x)) xs
count-flat_map n g [] = refl
count-flat_map n g (x ∷ xs) =
    sum_by-append (is_it n) (g x) (flat_map g xs)
    ∙ ap (λ k. count_by (nat_eq n) (g x) + k) (count-flat_map n g xs)
    ∙ sym (sum_by-cons (λ y. count_by (nat_eq n) (g y)) x xs)

count-map : {A : Type 0} (n : ℕ) (f : A → ℕ) (xs : List A) → count_by (nat_eq n) (map f xs) ≡ sum_by (λ x. is_it n (f x)) xs
count-map n f [] = refl
count-map n f (x ∷ xs) =
    sum_by-cons (is_it n) (f x) (map f xs)
    ∙ ap (λ k. is_it n (f x) + k) (count-map n f xs)
    ∙ sym (sum_by-cons (λ y. is_it n (f y)) x xs)

count_in_scopes : (n : ℕ) (ss : List Scope) → count_by (nat_eq n) (holders_of_scopes ss) ≡ sum_by (λ s. is_it n s.holder) ss
count_in_scopes n ss = count-map n (λ (s : Scope). s.holder) ss

count_in_variables : (n : ℕ) (xs : List Variable) → count_by (nat_eq n) (holders_of_variables xs) ≡ sum_by (λ x. count_by (nat_eq n) (option_to_list x.holder)) xs
count_in_variables n xs = count-flat_map n (λ (x : Variable). option_to_list x.holder) xs

-- ---- in lists of lists

-- a number is in a list as often as in its elements together
abbrev Weighs : {A : Type 0} → (List A → List ℕ) → (A → ℕ) → ℕ → Type 0
Weighs {A} g w n = (xs : List A) → count_by (nat_eq n) (g xs) ≡ sum_by w xs

among : {A : Type 0} (g : List A → List ℕ) (w : A → ℕ) (n : ℕ) (xss : List (List A)) (f i : ℕ) (xs : List A) (x : A) → Weighs g w n → slice_get xss f ≡ Some xs → slice_get xs i ≡ Some x → w x ≤ count_by (nat_eq n) (flat_map g xss)
among g w n xss f i xs x weighs at_xs at_x =
    let all = one_of (λ ys. count_by (nat_eq n) (g ys)) xss f xs at_xs in
    omega (arith, count-flat_map n g xss, all, weighs xs, one_of w xs i x at_x)

one_place : {A : Type 0} (g : List A → List ℕ) (w : A → ℕ) (n : ℕ) (xss : List (List A)) (f k i j : ℕ) (xs ys : List A) (x y : A) → Weighs g w n → count_by (nat_eq n) (flat_map g xss) ≤ 1
    → slice_get xss f ≡ Some xs → slice_get xss k ≡ Some ys → slice_get xs i ≡ Some x → slice_get ys j ≡ Some y → 1 ≤ w x → 1 ≤ w y → (f ≡ k) × (i ≡ j)
one_place {A} g w n xss f k i j xs ys x y weighs once at_xs at_ys at_x at_y of_x of_y = lists (two_of (λ zs. count_by (nat_eq n) (g zs)) xss f k xs ys at_xs at_ys)
  where
    in_one : (i ≡ j) ⊎ (w x + w y ≤ sum_by w xs) → i ≡ j
    in_one (inl same) = same
    in_one (inr less) = let all = one_of (λ zs. count_by (nat_eq n) (g zs)) xss f xs at_xs in absurd (omega (arith, count-flat_map n g xss, all, weighs xs, less, once, of_x, of_y))

    lists : (f ≡ k) ⊎ (count_by (nat_eq n) (g xs) + count_by (nat_eq n) (g ys) ≤ sum_by (λ zs. count_by (nat_eq n) (g zs)) xss) → (f ≡ k) × (i ≡ j)
    lists (inl same) =
        let list : ys ≡ xs = some_same ys xs (sym at_ys ∙ ap (slice_get xss) (sym same) ∙ at_xs) in
        (same, in_one (two_of w xs i j x y at_x (subst (λ zs. slice_get zs j ≡ Some y) list at_y)))
    lists (inr less) = absurd (omega (arith, count-flat_map n g xss, less, weighs xs, weighs ys, one_of w xs i x at_x, one_of w ys j y at_y, once, of_x, of_y))

-- ---- of what a recording shows

count_both : (n : ℕ) (v : Played) → IsRecording v.recording → count_by (nat_eq n) (flat_map holders_of_scopes v.recording.scopes) + count_by (nat_eq n) (flat_map holders_of_variables v.recording.variables) ≤ 1
count_both n v good = omega (arith, sum_by-append (is_it n) (flat_map holders_of_scopes v.recording.scopes) (flat_map holders_of_variables v.recording.variables), good.holders n)

scopes_recorded : (v : Played) (f : ℕ) (ss : List Scope) → (shown_of v).scopes f ≡ Some ss → slice_get v.recording.scopes f ≡ Some ss
scopes_recorded v f ss e = found-within (λ m. m.frames) (moment_shown v) f (slice_get v.recording.scopes f) ss e

child_recorded : (v : Played) → KeepHolders v.recording.variables v.changed → (h i : ℕ) (xs : List Variable) (x : Variable) → (shown_of v).children h ≡ Some xs → slice_get xs i ≡ Some x → RecordedAt v.recording.variables h i x
child_recorded v keeps h i xs x e at = recorded-at v keeps h i xs x (found-within (λ m. m.holders) (moment_shown v) h (variables_held v h) xs e) at

pub names_one_holder : (v : Played) → IsRecording v.recording → KeepHolders v.recording.variables v.changed → NamesOneHolder (shown_of v)
names_one_holder v good keeps = record {
  scopes = λ f g ss ts i j s t of_f of_g at_s at_t same.
      one_place holders_of_scopes (λ (x : Scope). is_it t.holder x.holder) t.holder v.recording.scopes f g i j ss ts s t (count_in_scopes t.holder) (omega (arith, count_both t.holder v good)) (scopes_recorded v f ss of_f) (scopes_recorded v g ts of_g) at_s at_t (it_is t.holder s.holder same) (it_is t.holder t.holder refl);
  variables = λ h k xs ys i j x y n of_h of_k at_x at_y is_x is_y.
      let a = child_recorded v keeps h i xs x of_h at_x in
      let b = child_recorded v keeps k j ys y of_k at_y in
      one_place holders_of_variables (λ (z : Variable). count_by (nat_eq n) (option_to_list z.holder)) n v.recording.variables h k i j a.list b.list a.variable b.variable (count_in_variables n) (omega (arith, count_both n v good)) a.at_list b.at_list a.at_variable b.at_variable (it_is_given n a.variable.holder (a.same ∙ is_x)) (it_is_given n b.variable.holder (b.same ∙ is_y));
  apart = λ f h ss xs i j s x of_f of_h at_s at_x same.
      let scope = among holders_of_scopes (λ (y : Scope). is_it s.holder y.holder) s.holder v.recording.scopes f i ss s (count_in_scopes s.holder) (scopes_recorded v f ss of_f) at_s in
      let a = child_recorded v keeps h j xs x of_h at_x in
      let variable = among holders_of_variables (λ (z : Variable). count_by (nat_eq s.holder) (option_to_list z.holder)) s.holder v.recording.variables h j a.list a.variable (count_in_variables s.holder) a.at_list a.at_variable in
      omega (arith, count_both s.holder v good, scope, variable, it_is s.holder s.holder refl, it_is_given s.holder a.variable.holder (a.same ∙ same));
}

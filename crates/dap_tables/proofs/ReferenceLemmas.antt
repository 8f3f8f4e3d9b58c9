-- What a live reference names, and that no target comes twice.
use Rattle.std.proofs.Common.{◌≡◌, ℕ, suc, zero, ◌+◌, ◌-◌, ◌<◌, List, [], ◌∷◌, ◌++◌, Bool, true, false, cond, length, take, get_or, Some, None, refl, sym, ap, subst, ◌∙◌, arith, length-append, length-take, true≢false}
use Rattle.std.specs.Prelude.{◌==◌, ◌&&◌, nat_lt}
use Rattle.std.specs.List.{slice_get}
use Rattle.std.proofs.lemmas.Bool.Decides.{nat_tests}
use Rattle.std.proofs.lemmas.List.Quantifiers.{position-Some}
use Rattle.std.proofs.lemmas.Option.{slice_get-get_or}
use Rattle.dap_tables.specs.declared.reference_kind.ReferenceKind.{ReferenceKind}
use Rattle.dap_tables.specs.declared.reference_kind.ReferenceKind.TheVariants.{Frame, Holder}
use Rattle.dap_tables.specs.declared.target.Target.{Target}
use Rattle.dap_tables.specs.References.{same_kind, is_same, place_of, target_of, HasDistinctTargets, IsOrderlyReferences}
use Rattle.dap_tables.specs.PrivateReferenceStore.{reference_table_of}
use Rattle.dap_tables.proofs.Places.{or_else, place-push, absent-tail, absent-head, absent-cons}

is-lt : (a b : ℕ) → a < b → nat_lt a b ≡ true
is-lt a b h = grind (arith, nat_tests)

is-eq : (a b : ℕ) → (a == b) ≡ true → a ≡ b
is-eq a b h = grind (arith, nat_tests)

and-left : (a b : Bool) → (a && b) ≡ true → a ≡ true
and-left true b h = refl
and-left false b h = h

and-right : (a b : Bool) → (a && b) ≡ true → b ≡ true
and-right true b h = h
and-right false b h = absurd (true≢false (sym h))

-- ---- targets

kind-is : (a b : ReferenceKind) → same_kind a b ≡ true → a ≡ b
kind-is Frame Frame h = refl
kind-is Frame Holder h = absurd (true≢false (sym h))
kind-is Holder Frame h = absurd (true≢false (sym h))
kind-is Holder Holder h = refl

pub target-is : (a b : Target) → is_same a b ≡ true → a ≡ b
target-is a b h =
    let kind = kind-is a.kind b.kind (and-left (same_kind a.kind b.kind) (a.object == b.object) h) in
    let object = is-eq a.object b.object (and-right (same_kind a.kind b.kind) (a.object == b.object) h) in
    ap (λ (k : ReferenceKind). let t : Target = record { kind = k; object = a.object } in t) kind ∙ ap (λ (n : ℕ). let t : Target = record { kind = b.kind; object = n } in t) object

same-kinds : (a b : ReferenceKind) → same_kind a b ≡ same_kind b a
same-kinds Frame Frame = refl
same-kinds Frame Holder = refl
same-kinds Holder Frame = refl
same-kinds Holder Holder = refl

same-numbers : (a b : ℕ) → (a == b) ≡ (b == a)
same-numbers a b = grind (arith, nat_tests)

pub same-turned : (a b : Target) → is_same a b ≡ is_same b a
same-turned a b = ap (λ c. c && (a.object == b.object)) (same-kinds a.kind b.kind) ∙ ap (λ c. same_kind b.kind a.kind && c) (same-numbers a.object b.object)

-- ---- what a number names

pub placed : (t : Target) (live : List Target) (p : ℕ) → place_of t live ≡ Some p → slice_get live p ≡ Some t
placed t live p e =
    let found = position-Some (λ (x : Target). is_same x t) live p t e in
    slice_get-get_or live p t found.0 ∙ ap Some (target-is (get_or live p t) t found.1)

pub at-place : (base p : ℕ) (live : List Target) (t : Target) → slice_get live p ≡ Some t → target_of (record { base = base; live = live }) (base + 1 + p) ≡ Some t
at-place base p live t h =
    let place : base + 1 + p - base - 1 ≡ p = omega arith in
    rw (is-lt base (base + 1 + p) (omega arith), place) h

slice_get-end : {A : Type 0} (xs : List A) (x : A) → slice_get (xs ++ x ∷ []) (length xs) ≡ Some x
slice_get-end [] x = refl
slice_get-end (y ∷ xs) x = slice_get-end xs x

pub at-end : (base : ℕ) (live new : List Target) (t : Target) (n : ℕ) → new ≡ live ++ t ∷ [] → n ≡ base + length live + 1 → target_of (record { base = base; live = new }) n ≡ Some t
at-end base live new t n is e =
    let number : n ≡ base + 1 + length live = omega arith in
    rw (is, number) (at-place base (length live) (live ++ t ∷ []) t (slice_get-end live t))

-- ---- no target twice

nowhere : (b : Bool) (n : ℕ) → b ≡ false → or_else None (cond b (Some n) None) ≡ None
nowhere b n h = rw h refl

pub distinct-push : (ts : List Target) (t : Target) → HasDistinctTargets ts → place_of t ts ≡ None → HasDistinctTargets (ts ++ t ∷ [])
distinct-push [] t d none = (refl, tt)
distinct-push (x ∷ ts) t d none =
    let other : is_same x t ≡ false = absent-head (λ (y : Target). is_same y t) x ts none in
    let here = place-push (λ (y : Target). is_same y x) ts t ∙ ap (λ o. or_else o (cond (is_same t x) (Some (length ts)) None)) d.0 ∙ nowhere (is_same t x) (length ts) (same-turned t x ∙ other) in
    (here, distinct-push ts t d.1 (absent-tail (λ (y : Target). is_same y t) x ts none))

absent-take : (t : Target) (n : ℕ) (ts : List Target) → place_of t ts ≡ None → place_of t (take n ts) ≡ None
absent-take t zero ts none = refl
absent-take t (suc n) [] none = refl
absent-take t (suc n) (x ∷ ts) none =
    absent-cons (λ (y : Target). is_same y t) x (take n ts) (absent-head (λ (y : Target). is_same y t) x ts none) (absent-take t n ts (absent-tail (λ (y : Target). is_same y t) x ts none))

pub distinct-take : (n : ℕ) (ts : List Target) → HasDistinctTargets ts → HasDistinctTargets (take n ts)
distinct-take zero ts d = tt
distinct-take (suc n) [] d = tt
distinct-take (suc n) (x ∷ ts) d = (absent-take x n ts d.0, distinct-take n ts d.1)

-- ---- the invariant

pub order-push : (room greatest base : ℕ) (live new : List Target) (t : Target) → IsOrderlyReferences (reference_table_of room greatest base live) → place_of t live ≡ None → length live < room → base + length live < greatest → new ≡ live ++ t ∷ [] → IsOrderlyReferences (reference_table_of room greatest base new)
order-push room greatest base live new t o none free left is =
    let all = length-append live (t ∷ []) in
    subst (λ (ts : List Target). IsOrderlyReferences (reference_table_of room greatest base ts)) (sym is)
    (record { bound = omega arith; numbers = omega arith; distinct = distinct-push live t o.distinct none })

pub order-take : (room greatest base n : ℕ) (live new : List Target) → IsOrderlyReferences (reference_table_of room greatest base live) → new ≡ take n live → IsOrderlyReferences (reference_table_of room greatest base new)
order-take room greatest base n live new o is =
    let bound = o.bound in
    let numbers = o.numbers in
    let all = length-take n live in
    subst (λ (ts : List Target). IsOrderlyReferences (reference_table_of room greatest base ts)) (sym is)
    (record { bound = omega arith; numbers = omega arith; distinct = distinct-take n live o.distinct })

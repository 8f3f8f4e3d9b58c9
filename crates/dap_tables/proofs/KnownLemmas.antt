-- Known references as they are stored, and that they are a set.
use Rattle.std.proofs.Common.{◌≡◌, ℕ, suc, zero, ◌+◌, ◌≤◌, ◌<◌, List, [], ◌∷◌, ◌++◌, length, take, Bool, true, false, Option, Some, None, option_map, refl, sym, ap, subst, ◌∙◌, arith, length-append, true≢false, is_some}
use Rattle.std.specs.Prelude.{◌&&◌, ◌||◌, if◌then◌else◌}
use Rattle.std.specs.List.{list_any, list_all}
use Rattle.dap_tables.specs.declared.reference_kind.ReferenceKind.{ReferenceKind}
use Rattle.dap_tables.specs.declared.target.Target.{Target}
use Rattle.dap_tables.specs.References.{is_same, place_of}
use Rattle.dap_tables.specs.Known.{KnownReferences, is_pair, has_pair, with_pair, with_pairs, HasDistinctPairs, IsSet}
use Rattle.dap_tables.specs.KnownLaws.{KnownIsASet}
use Rattle.dap_tables.specs.PrivateKnownStore.{pair_of_target, target_of_pair, pairs_of_targets, known_of}
use Rattle.dap_tables.proofs.Places.{place_in, is_place}
use Rattle.dap_tables.proofs.ReferenceLemmas.{target-is, same-turned}

-- ---- as they are stored

has-by : (b c : Bool) (o : Option ℕ) → is_some o ≡ c → is_some (if b then Some 0 else option_map (λ k. suc k) o) ≡ (b || c)
has-by true c o h = refl
has-by false c None h = h
has-by false c (Some k) h = h

has-in : (t : Target) (xs : List Target) → is_some (place_in (λ (x : Target). is_same x t) xs) ≡ has_pair (pair_of_target t) (pairs_of_targets xs)
has-in t [] = refl
has-in t (x ∷ xs) = has-by (is_same x t) (has_pair (pair_of_target t) (pairs_of_targets xs)) (place_in (λ (y : Target). is_same y t) xs) (has-in t xs)

-- a pair is held where it has a place
pub has-place : (t : Target) (xs : List Target) → is_some (place_of t xs) ≡ has_pair (pair_of_target t) (pairs_of_targets xs)
has-place t xs = ap is_some (is_place (λ (x : Target). is_same x t) xs) ∙ has-in t xs

no-place-by : (o : Option ℕ) → is_some o ≡ false → o ≡ None
no-place-by None h = refl
no-place-by (Some k) h = absurd (true≢false h)

-- and has no place where it is not held
pub no-place : (t : Target) (xs : List Target) → has_pair (pair_of_target t) (pairs_of_targets xs) ≡ false → place_of t xs ≡ None
no-place t xs h = no-place-by (place_of t xs) (has-place t xs ∙ h)

pub pairs-length : (xs : List Target) → length (pairs_of_targets xs) ≡ length xs
pairs-length [] = refl
pairs-length (x ∷ xs) = ap (λ n. suc n) (pairs-length xs)

pub pairs-take : (n : ℕ) (xs : List Target) → pairs_of_targets (take n xs) ≡ take n (pairs_of_targets xs)
pairs-take zero xs = refl
pairs-take (suc n) [] = refl
pairs-take (suc n) (x ∷ xs) = ap (λ (ps : List (ReferenceKind × ℕ)). pair_of_target x ∷ ps) (pairs-take n xs)

-- ---- counts

one-if : (b : Bool) (p : ReferenceKind × ℕ) (xs : List (ReferenceKind × ℕ)) → length xs ≤ length (if b then xs else xs ++ p ∷ [])
one-if true p xs = omega arith
one-if false p xs = omega (arith, length-append xs (p ∷ []))

pub one-more : (p : ReferenceKind × ℕ) (xs : List (ReferenceKind × ℕ)) → length xs ≤ length (with_pair p xs)
one-more p xs = one-if (has_pair p xs) p xs

pub never-fewer : (ps xs : List (ReferenceKind × ℕ)) → length xs ≤ length (with_pairs ps xs)
never-fewer [] xs = omega arith
never-fewer (p ∷ ps) xs = omega (arith, one-more p xs, never-fewer ps (with_pair p xs))

one-within : (b : Bool) (p : ReferenceKind × ℕ) (xs : List (ReferenceKind × ℕ)) → length (if b then xs else xs ++ p ∷ []) ≤ length xs + 1
one-within true p xs = omega arith
one-within false p xs = omega (arith, length-append xs (p ∷ []))

each-once : (ps xs : List (ReferenceKind × ℕ)) → length (with_pairs ps xs) ≤ length xs + length ps
each-once [] xs = omega arith
each-once (p ∷ ps) xs = omega (arith, one-within (has_pair p xs) p xs, each-once ps (with_pair p xs))

-- ---- one more

-- where one pair is too many, or one more, all of them are
pub all-then : (n : ℕ) (p : ReferenceKind × ℕ) (ps rest given xs ys : List (ReferenceKind × ℕ)) → rest ≡ p ∷ ps → with_pairs rest xs ≡ with_pairs given ys → n < length (with_pair p xs) → n < length (with_pairs given ys)
all-then n p ps rest given xs ys is same h =
    let more = never-fewer ps (with_pair p xs) in
    let whole : with_pairs (p ∷ ps) xs ≡ with_pairs given ys = ap (λ (qs : List (ReferenceKind × ℕ)). with_pairs qs xs) (sym is) ∙ same in
    let long = ap length whole in
    omega arith

-- ---- a set

pair-is : (a b : ReferenceKind × ℕ) → is_pair a b ≡ true → a ≡ b
pair-is a b h = ap pair_of_target (target-is (target_of_pair a) (target_of_pair b) h)

pair-turned : (a b : ReferenceKind × ℕ) → is_pair a b ≡ is_pair b a
pair-turned a b = same-turned (target_of_pair a) (target_of_pair b)

or-false : (b : Bool) → (b || false) ≡ b
or-false true = refl
or-false false = refl

or-assoc : (a b c : Bool) → ((a || b) || c) ≡ (a || (b || c))
or-assoc true b c = refl
or-assoc false b c = refl

or-left : (a b : Bool) → (a || b) ≡ false → a ≡ false
or-left true b h = h
or-left false b h = refl

or-right : (a b : Bool) → (a || b) ≡ false → b ≡ false
or-right true b h = absurd (true≢false h)
or-right false b h = h

and-left : (a b : Bool) → (a && b) ≡ true → a ≡ true
and-left true b h = refl
and-left false b h = h

and-right : (a b : Bool) → (a && b) ≡ true → b ≡ true
and-right true b h = h
and-right false b h = absurd (true≢false (sym h))

any-push : (f : ReferenceKind × ℕ → Bool) (xs : List (ReferenceKind × ℕ)) (y : ReferenceKind × ℕ) → list_any f (xs ++ y ∷ []) ≡ (list_any f xs || f y)
any-push f [] y = or-false (f y)
any-push f (x ∷ xs) y = ap (λ (b : Bool). f x || b) (any-push f xs y) ∙ sym (or-assoc (f x) (list_any f xs) (f y))

held-already : (b : Bool) (p q : ReferenceKind × ℕ) (xs : List (ReferenceKind × ℕ)) → is_pair q p ≡ b → has_pair q xs ≡ true → has_pair p xs ≡ (has_pair p xs || b)
held-already true p q xs same held = rw (subst (λ (r : ReferenceKind × ℕ). has_pair r xs ≡ true) (pair-is q p same) held) refl
held-already false p q xs same held = sym (or-false (has_pair p xs))

held-if : (b : Bool) (p q : ReferenceKind × ℕ) (xs : List (ReferenceKind × ℕ)) → has_pair q xs ≡ b → has_pair p (if b then xs else xs ++ q ∷ []) ≡ (has_pair p xs || is_pair q p)
held-if true p q xs h = held-already (is_pair q p) p q xs refl h
held-if false p q xs h = any-push (λ (r : ReferenceKind × ℕ). is_pair r p) xs q

held : (p q : ReferenceKind × ℕ) (xs : List (ReferenceKind × ℕ)) → has_pair p (with_pair q xs) ≡ (has_pair p xs || is_pair q p)
held p q xs = held-if (has_pair q xs) p q xs refl

union : (p : ReferenceKind × ℕ) (given pairs : List (ReferenceKind × ℕ)) → has_pair p (with_pairs given pairs) ≡ (has_pair p pairs || has_pair p given)
union p [] pairs = sym (or-false (has_pair p pairs))
union p (q ∷ given) pairs =
    union p given (with_pair q pairs) ∙ ap (λ (b : Bool). b || has_pair p given) (held p q pairs) ∙ or-assoc (has_pair p pairs) (is_pair q p) (has_pair p given)

distinct-push : (xs : List (ReferenceKind × ℕ)) (p : ReferenceKind × ℕ) → has_pair p xs ≡ false → HasDistinctPairs xs → HasDistinctPairs (xs ++ p ∷ [])
distinct-push [] p h d = (refl, tt)
distinct-push (x ∷ xs) p h d =
    let other = pair-turned p x ∙ or-left (is_pair x p) (has_pair p xs) h in
    (any-push (λ (r : ReferenceKind × ℕ). is_pair r x) xs p ∙ rw (d.0, other) refl, distinct-push xs p (or-right (is_pair x p) (has_pair p xs) h) d.1)

distinct-if : (b : Bool) (xs : List (ReferenceKind × ℕ)) (p : ReferenceKind × ℕ) → has_pair p xs ≡ b → HasDistinctPairs xs → HasDistinctPairs (if b then xs else xs ++ p ∷ [])
distinct-if true xs p h d = d
distinct-if false xs p h d = distinct-push xs p h d

distinct : (given pairs : List (ReferenceKind × ℕ)) → HasDistinctPairs pairs → HasDistinctPairs (with_pairs given pairs)
distinct [] pairs d = d
distinct (p ∷ given) pairs d = distinct given (with_pair p pairs) (distinct-if (has_pair p pairs) pairs p refl d)

again : (given pairs : List (ReferenceKind × ℕ)) → list_all (λ p. has_pair p pairs) given ≡ true → with_pairs given pairs ≡ pairs
again [] pairs h = refl
again (p ∷ given) pairs h =
    let here = and-left (has_pair p pairs) (list_all (λ q. has_pair q pairs) given) h in
    let rest = and-right (has_pair p pairs) (list_all (λ q. has_pair q pairs) given) h in
    ap (λ (b : Bool). with_pairs given (if b then pairs else pairs ++ p ∷ [])) here ∙ again given pairs rest

pub known_is_a_set : KnownIsASet
known_is_a_set = record { union = union; distinct = distinct; more = never-fewer; within = each-once; again = again }

-- ---- what is true of every table

-- after a call that was refused
pub back-to : (room n : ℕ) (targets more fewer : List Target) → IsSet (known_of room targets) → fewer ≡ take n more → n ≡ length targets → take (length targets) (pairs_of_targets more) ≡ pairs_of_targets targets → known_of room fewer ≡ known_of room targets
back-to room n targets more fewer set is count front =
    let k : KnownReferences = known_of room targets in
    let same : pairs_of_targets fewer ≡ pairs_of_targets targets = ap pairs_of_targets is ∙ pairs-take n more ∙ ap (λ m. take m (pairs_of_targets more)) count ∙ front in
    ap (λ (ps : List (ReferenceKind × ℕ)). let t : KnownReferences = record { room = room; pairs = ps } in t) same

-- after one that was not
pub set-then : (room : ℕ) (targets more : List Target) (given : List (ReferenceKind × ℕ)) → IsSet (known_of room targets) → pairs_of_targets more ≡ with_pairs given (pairs_of_targets targets) → length more ≤ room → IsSet (known_of room more)
set-then room targets more given set is bound =
    record { bound = omega (arith, pairs-length more); distinct = subst HasDistinctPairs (sym is) (distinct given (pairs_of_targets targets) set.distinct) }

-- References that are given: what a number names, and what an answer's objects are given.
use Rattle.std.proofs.Common.{◌≡◌, ℕ, zero, suc, ◌+◌, ◌-◌, ◌<◌, ◌≤◌, List, [], ◌∷◌, ◌++◌, Bool, true, false, Option, Some, None, Result, Ok, Err, length, get_or, refl, sym, ap, ◌∙◌, subst, append_assoc, arith, length-append, true≢false}
use Rattle.std.specs.Prelude.{◌==◌, ◌&&◌, if◌then◌else◌, nat_lt}
use Rattle.std.specs.List.{slice_get, AllZip}
use Rattle.std.proofs.lemmas.Bool.Decides.{nat_tests}
use Rattle.std.proofs.lemmas.List.{append-nil}
use Rattle.std.proofs.lemmas.List.Quantifiers.{position-Some}
use Rattle.std.proofs.lemmas.Option.{slice_get-get_or, slice_get_within}
use Rattle.dap_frame.specs.Settings.{Settings}
use Rattle.dap_tables.specs.declared.target.Target.{Target}
use Rattle.dap_tables.specs.declared.reference_kind.ReferenceKind.{ReferenceKind}
use Rattle.dap_tables.specs.declared.reference_kind.ReferenceKind.TheVariants as kind
use Rattle.dap_tables.specs.References.{LiveReferences, same_kind, is_same, place_of, target_of, numbered_at}
use Rattle.dap_body.specs.declared.failure.Failure.{Failure}
use Rattle.dap_body.specs.declared.failure.Failure.TheVariants.{TooManyReferences, ReferencesExhausted}
use Rattle.dap_query.specs.Laws.{AreFew, NumbersNameObjects}
use Rattle.dap_query.specs.References.{IsNumberOf, intern, and_then, onto_first, intern_each, targets_named, with_target, with_targets}
use Rattle.dap_query.specs.QueryResults.{Grows}

-- ---- numbers and targets

pub lt-of : (a b : ℕ) → nat_lt a b ≡ true → a < b
lt-of a b h = grind (arith, nat_tests)

pub le-not : (a b : ℕ) → nat_lt a b ≡ false → b ≤ a
le-not a b h = grind (arith, nat_tests)

pub no-lt : (a b : ℕ) → b ≤ a → nat_lt a b ≡ false
no-lt a b h = grind (arith, nat_tests)

pub is-lt : (a b : ℕ) → a < b → nat_lt a b ≡ true
is-lt a b h = grind (arith, nat_tests)

pub is-eq : (a b : ℕ) → (a == b) ≡ true → a ≡ b
is-eq a b h = grind (arith, nat_tests)

and-left : (a b : Bool) → (a && b) ≡ true → a ≡ true
and-left true b h = refl
and-left false b h = h

and-right : (a b : Bool) → (a && b) ≡ true → b ≡ true
and-right true b h = h
and-right false b h = absurd (true≢false (sym h))

pub dead : (refs : LiveReferences) (n : ℕ) → n ≤ refs.base → target_of refs n ≡ None
dead refs n h = rw (no-lt refs.base n h) refl

-- the number of a place names what stands there
at-place : (refs : LiveReferences) (p : ℕ) (t : Target) → slice_get refs.live p ≡ Some t → target_of refs (refs.base + 1 + p) ≡ Some t
at-place refs p t h =
    let place : refs.base + 1 + p - refs.base - 1 ≡ p = omega arith in
    rw (is-lt refs.base (refs.base + 1 + p) (omega arith), place) h

live-if : (b : Bool) (base n : ℕ) (live : List Target) (t : Target) → nat_lt base n ≡ b → (if b then slice_get live (n - base - 1) else None) ≡ Some t → n ≤ base + length live
live-if true base n live t e h =
    let place = slice_get_within live (n - base - 1) t h in
    let above = lt-of base n e in
    omega arith
live-if false base n live t e h = cc

-- a live number is at most the last that was given
pub live-at-most : (refs : LiveReferences) (n : ℕ) (t : Target) → target_of refs n ≡ Some t → n ≤ refs.base + length refs.live
live-at-most refs n t h = live-if (nat_lt refs.base n) refs.base n refs.live t refl h

-- ---- more references

slice_get-front : {A : Type 0} (xs ys : List A) (k : ℕ) (x : A) → slice_get xs k ≡ Some x → slice_get (xs ++ ys) k ≡ Some x
slice_get-front [] ys k x h = cc
slice_get-front (y ∷ xs) ys zero x h = h
slice_get-front (y ∷ xs) ys (suc k) x h = slice_get-front xs ys k x h

slice_get-end : {A : Type 0} (xs : List A) (x : A) → slice_get (xs ++ x ∷ []) (length xs) ≡ Some x
slice_get-end [] x = refl
slice_get-end (y ∷ xs) x = slice_get-end xs x

-- more live references, and none less
pub grows-not : (refs : LiveReferences) → Grows refs refs
grows-not refs = record { base = refl; more = []; live = sym (append-nil refs.live) }

pub grows-twice : (old mid new : LiveReferences) → Grows old mid → Grows mid new → Grows old new
grows-twice old mid new g h =
    record {
      base = h.base ∙ g.base;
      more = g.more ++ h.more;
      live = h.live ∙ (ap (λ (xs : List Target). xs ++ h.more) g.live ∙ append_assoc old.live g.more h.more);
    }

stays-if : (b : Bool) (k : ℕ) (xs more : List Target) (t : Target) → (if b then slice_get xs k else None) ≡ Some t → (if b then slice_get (xs ++ more) k else None) ≡ Some t
stays-if true k xs more t h = slice_get-front xs more k t h
stays-if false k xs more t h = h

-- each number names what it named
pub grown-names : (old new : LiveReferences) (n : ℕ) (t : Target) → Grows old new → target_of old n ≡ Some t → target_of new n ≡ Some t
grown-names old new n t g h = rw (g.base, g.live) (stays-if (nat_lt old.base n) (n - old.base - 1) old.live g.more t h)

-- ---- numbers for an answer

kind-is : (a b : ReferenceKind) → same_kind a b ≡ true → a ≡ b
kind-is kind.Frame kind.Frame h = refl
kind-is kind.Frame kind.Holder h = absurd (true≢false (sym h))
kind-is kind.Holder kind.Frame h = absurd (true≢false (sym h))
kind-is kind.Holder kind.Holder h = refl

target-is : (a b : Target) → is_same a b ≡ true → a ≡ b
target-is a b h =
    let kind = kind-is a.kind b.kind (and-left (same_kind a.kind b.kind) (a.object == b.object) h) in
    let object = is-eq a.object b.object (and-right (same_kind a.kind b.kind) (a.object == b.object) h) in
    ap (λ (k : ReferenceKind). let t : Target = record { kind = k; object = a.object } in t) kind ∙ ap (λ (n : ℕ). let t : Target = record { kind = b.kind; object = n } in t) object

placed : (t : Target) (live : List Target) (p : ℕ) → place_of t live ≡ Some p → slice_get live p ≡ Some t
placed t live p e =
    let found = position-Some (λ (x : Target). is_same x t) live p t e in
    slice_get-get_or live p t found.0 ∙ ap Some (target-is (get_or live p t) t found.1)

-- a number for one target
record Interned (limits : Settings) (t : Target) (old : LiveReferences) (given : ℕ × LiveReferences) : Type 0 where
  grows : Grows old given.1
  names : target_of given.1 given.0 ≡ Some t
  live : given.1 ≡ record old { live = with_target t old.live }
  few : AreFew limits old → AreFew limits given.1

one-more : (limits : Settings) (t : Target) (refs : LiveReferences) → place_of t refs.live ≡ None → length refs.live < limits.references → refs.base + length refs.live < limits.reference → Interned limits t refs (refs.base + 1 + length refs.live, record refs { live = refs.live ++ t ∷ [] })
one-more limits t refs new a b =
    let all = length-append refs.live (t ∷ []) in
    let more : LiveReferences = record refs { live = refs.live ++ t ∷ [] } in
    record {
      grows = record { base = refl; more = t ∷ []; live = refl };
      names = at-place more (length refs.live) t (slice_get-end refs.live t);
      live = rw new refl;
      few = λ (h : AreFew limits refs). record { references = omega arith; numbers = omega arith };
    }

interned-next : (a b : Bool) (limits : Settings) (t : Target) (refs : LiveReferences) (given : ℕ × LiveReferences) → place_of t refs.live ≡ None → nat_lt (length refs.live) limits.references ≡ a → nat_lt (refs.base + length refs.live) limits.reference ≡ b
    → (let out : Result (ℕ × LiveReferences) Failure = (if a then (if b then Ok (refs.base + 1 + length refs.live, record refs { live = refs.live ++ t ∷ [] }) else Err ReferencesExhausted) else Err TooManyReferences) in out) ≡ Ok given
    → Interned limits t refs given
interned-next true true limits t refs given new x y e =
    let same : (refs.base + 1 + length refs.live, record refs { live = refs.live ++ t ∷ [] }) ≡ given = cc in
    subst (λ (q : ℕ × LiveReferences). Interned limits t refs q) same (one-more limits t refs new (lt-of (length refs.live) limits.references x) (lt-of (refs.base + length refs.live) limits.reference y))
interned-next true false limits t refs given new x y e = cc
interned-next false b limits t refs given new x y e = cc

interned-at : (o : Option ℕ) (limits : Settings) (t : Target) (refs : LiveReferences) (given : ℕ × LiveReferences) → place_of t refs.live ≡ o → numbered_at o TooManyReferences ReferencesExhausted limits.references limits.reference t refs ≡ Ok given → Interned limits t refs given
interned-at (Some p) limits t refs given is e =
    let same : (refs.base + 1 + p, refs) ≡ given = cc in
    subst (λ (q : ℕ × LiveReferences). Interned limits t refs q) same (record { grows = grows-not refs; names = at-place refs p t (placed t refs.live p is); live = rw is refl; few = λ (h : AreFew limits refs). h })
interned-at None limits t refs given is e = interned-next (nat_lt (length refs.live) limits.references) (nat_lt (refs.base + length refs.live) limits.reference) limits t refs given is refl refl e

interned-one : (limits : Settings) (t : Target) (refs : LiveReferences) (given : ℕ × LiveReferences) → intern limits t refs ≡ Ok given → Interned limits t refs given
interned-one limits t refs given e = interned-at (place_of t refs.live) limits t refs given refl e

-- and for each
pub record InternedEach (limits : Settings) (ts : List (Option Target)) (old : LiveReferences) (given : List ℕ × LiveReferences) : Type 0 where
  pub grows : Grows old given.1
  pub names : AllZip (IsNumberOf given.1) ts given.0
  -- just the targets that are named are live beside those that were
  pub live : given.1 ≡ record old { live = with_targets (targets_named ts) old.live }
  pub few : AreFew limits old → AreFew limits given.1

onto-given : (n : ℕ) (rest : Result (List ℕ × LiveReferences) Failure) (given : List ℕ × LiveReferences) → onto_first n rest ≡ Ok given → (q : List ℕ × LiveReferences) × (rest ≡ Ok q) × ((n ∷ q.0, q.1) ≡ given)
onto-given n (Ok q) given e = (q, refl, cc)
onto-given n (Err f) given e = cc

then-given : (limits : Settings) (ts : List (Option Target)) (first : Result (ℕ × LiveReferences) Failure) (given : List ℕ × LiveReferences) → and_then first (λ r. onto_first r.0 (intern_each limits ts r.1)) ≡ Ok given
    → (one : ℕ × LiveReferences) × (q : List ℕ × LiveReferences) × (first ≡ Ok one) × (intern_each limits ts one.1 ≡ Ok q) × ((one.0 ∷ q.0, q.1) ≡ given)
then-given limits ts (Ok one) given e = let rest = onto-given one.0 (intern_each limits ts one.1) given e in (one, rest.0, refl, rest.1, rest.2)
then-given limits ts (Err f) given e = cc

pub interned-each : (limits : Settings) (ts : List (Option Target)) (refs : LiveReferences) (given : List ℕ × LiveReferences) → intern_each limits ts refs ≡ Ok given → InternedEach limits ts refs given
interned-each limits [] refs given e =
    let same : ([], refs) ≡ given = cc in
    subst (λ (q : List ℕ × LiveReferences). InternedEach limits [] refs q) same (record { grows = grows-not refs; names = tt; live = refl; few = λ (h : AreFew limits refs). h })
interned-each limits (None ∷ ts) refs given e =
    let rest = onto-given 0 (intern_each limits ts refs) given e in
    let ih = interned-each limits ts refs rest.0 rest.1 in
    subst (λ (q : List ℕ × LiveReferences). InternedEach limits (None ∷ ts) refs q) rest.2 (record { grows = ih.grows; names = (refl, ih.names); live = ih.live; few = ih.few })
interned-each limits (Some t ∷ ts) refs given e =
    let both = then-given limits ts (intern limits t refs) given e in
    let first = interned-one limits t refs both.0 both.2 in
    let ih = interned-each limits ts both.0.1 both.1 both.3 in
    subst (λ (q : List ℕ × LiveReferences). InternedEach limits (Some t ∷ ts) refs q) both.4
    (record {
      grows = grows-twice refs both.0.1 both.1.1 first.grows ih.grows;
      names = (grown-names both.0.1 both.1.1 both.0.0 t ih.grows first.names, ih.names);
      live = ih.live ∙ rw first.live refl;
      few = λ (h : AreFew limits refs). ih.few (first.few h);
    })

-- ---- the law

pub numbers_name_objects : NumbersNameObjects
numbers_name_objects = record {
  named = λ limits objects refs given e. (interned-each limits objects refs given e).names;
  kept = λ limits objects refs given e n t h. grown-names refs given.1 n t (interned-each limits objects refs given e).grows h;
}

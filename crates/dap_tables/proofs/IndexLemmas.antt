-- The indexes of live targets: what a target more or less leaves of them.
use Rattle.std.proofs.Common.{◌≡◌, ℕ, List, [], ◌∷◌, ◌++◌, Bool, true, false, cond, length, Option, Some, None, refl, sym, ap, subst, ◌∙◌, arith}
use Rattle.std.specs.Prelude.{◌==◌}
use Rattle.std.specs.BTreeMap.{BTreeMap, get, is_at}
use Rattle.std.specs.Cmp.{unsigned_tied}
use Rattle.std.specs.Ordering.{nat_cmp}
use Rattle.std.proofs.lemmas.Bool.Decides.{nat_tests}
use Rattle.dap_tables.specs.declared.target.Target.{Target}
use Rattle.dap_tables.specs.References.{is_same, place_of, frame_of, holder_of, HasDistinctTargets}
use Rattle.dap_tables.specs.PrivateReferenceStore.{HasPlaces}
use Rattle.dap_tables.proofs.Places.{or_else, place-push, absent-front, absent-last, absent-cons}
use Rattle.dap_tables.proofs.ReferenceLemmas.{same-turned, distinct-push}

is-eq : (a b : ℕ) → (a == b) ≡ true → a ≡ b
is-eq a b h = grind (arith, nat_tests)

or-none : (o : Option ℕ) → or_else o None ≡ o
or-none None = refl
or-none (Some k) = refl

new-by : (b : Bool) (o : Option ℕ) (n : ℕ) → (b ≡ true → o ≡ None) → cond b (Some n) o ≡ or_else o (cond b (Some n) None)
new-by true o n none = sym (ap (λ p. or_else p (Some n)) (none refl))
new-by false o n none = sym (or-none o)

gone-by : (b : Bool) (o : Option ℕ) (n : ℕ) → (b ≡ true → o ≡ None) → cond b None (or_else o (cond b (Some n) None)) ≡ o
gone-by true o n none = sym (none refl)
gone-by false o n none = or-none o

-- ---- one kind of target; the other kind is not touched

module _ (named : ℕ → Target) (other : ℕ → Target)
    (own : (object q : ℕ) → is_same (named object) (named q) ≡ (object == q))
    (apart : (object q : ℕ) → is_same (named object) (other q) ≡ false) where
  absent : (live : List Target) (object q : ℕ) → place_of (named object) live ≡ None → (object == q) ≡ true → place_of (named q) live ≡ None
  absent live object q none h = subst (λ (n : ℕ). place_of (named n) live ≡ None) (is-eq object q h) none

  own-place : (live : List Target) (object q : ℕ) → place_of (named q) (live ++ named object ∷ []) ≡ or_else (place_of (named q) live) (cond (object == q) (Some (length live)) None)
  own-place live object q =
      place-push (λ (t : Target). is_same t (named q)) live (named object) ∙ ap (λ b. or_else (place_of (named q) live) (cond b (Some (length live)) None)) (own object q)

  pub other-place : (live : List Target) (object q : ℕ) → place_of (other q) (live ++ named object ∷ []) ≡ place_of (other q) live
  other-place live object q =
      place-push (λ (t : Target). is_same t (other q)) live (named object)
      ∙ ap (λ b. or_else (place_of (other q) live) (cond b (Some (length live)) None)) (apart object q)
      ∙ or-none (place_of (other q) live)

  pub place-added : (index new : BTreeMap ℕ ℕ) (live : List Target) (object n : ℕ) → ((q : ℕ) → get nat_cmp index q ≡ place_of (named q) live) → place_of (named object) live ≡ None → n ≡ length live
      → ((q : ℕ) → get nat_cmp new q ≡ cond (is_at (nat_cmp object) q) (Some n) (get nat_cmp index q))
      → (q : ℕ) → get nat_cmp new q ≡ place_of (named q) (live ++ named object ∷ [])
  place-added index new live object n has none is updates q =
      updates q
      ∙ ap (λ b. cond b (Some n) (get nat_cmp index q)) (unsigned_tied object q)
      ∙ ap (λ o. cond (object == q) (Some n) o) (has q)
      ∙ ap (λ (k : ℕ). cond (object == q) (Some k) (place_of (named q) live)) is
      ∙ new-by (object == q) (place_of (named q) live) (length live) (absent live object q none)
      ∙ sym (own-place live object q)

  pub place-gone : (index new : BTreeMap ℕ ℕ) (live : List Target) (object : ℕ) → ((q : ℕ) → get nat_cmp index q ≡ place_of (named q) (live ++ named object ∷ [])) → place_of (named object) live ≡ None
      → ((q : ℕ) → get nat_cmp new q ≡ cond (is_at (nat_cmp object) q) None (get nat_cmp index q))
      → (q : ℕ) → get nat_cmp new q ≡ place_of (named q) live
  place-gone index new live object has none updates q =
      updates q
      ∙ ap (λ b. cond b None (get nat_cmp index q)) (unsigned_tied object q)
      ∙ ap (λ o. cond (object == q) None o) (has q ∙ own-place live object q)
      ∙ gone-by (object == q) (place_of (named q) live) (length live) (absent live object q none)

-- ---- without the last

pub distinct-init : (live : List Target) (t : Target) → HasDistinctTargets (live ++ t ∷ []) → (place_of t live ≡ None) × HasDistinctTargets live
distinct-init [] t d = (refl, tt)
distinct-init (x ∷ live) t d =
    let rest = distinct-init live t d.1 in
    let other = same-turned x t ∙ absent-last (λ (y : Target). is_same y x) live t d.0 in
    (absent-cons (λ (y : Target). is_same y t) x live other rest.0, (absent-front (λ (y : Target). is_same y x) live t d.0, rest.1))

-- ---- frames

pub frame-pushed : (frames holders new : BTreeMap ℕ ℕ) (live items : List Target) (object n : ℕ) → HasPlaces frames holders live × HasDistinctTargets live → place_of (frame_of object) live ≡ None → n ≡ length live
    → ((q : ℕ) → get nat_cmp new q ≡ cond (is_at (nat_cmp object) q) (Some n) (get nat_cmp frames q)) → items ≡ live ++ frame_of object ∷ [] → HasPlaces new holders items × HasDistinctTargets items
frame-pushed frames holders new live items object n has none is updates more =
    subst (λ (ts : List Target). HasPlaces new holders ts × HasDistinctTargets ts) (sym more) (
      record {
        frames_at = place-added frame_of holder_of (λ o q. refl) (λ o q. refl) frames new live object n has.0.frames_at none is updates;
        holders_at = λ q. has.0.holders_at q ∙ sym (other-place frame_of holder_of (λ o q. refl) (λ o q. refl) live object q);
      },
      distinct-push live (frame_of object) has.1 none,
    )

pub frame-popped : (frames holders new : BTreeMap ℕ ℕ) (live items : List Target) (object : ℕ) → HasPlaces frames holders live × HasDistinctTargets live → live ≡ items ++ frame_of object ∷ []
    → ((q : ℕ) → get nat_cmp new q ≡ cond (is_at (nat_cmp object) q) None (get nat_cmp frames q)) → HasPlaces new holders items × HasDistinctTargets items
frame-popped frames holders new live items object has more updates =
    let whole = subst (λ (ts : List Target). HasPlaces frames holders ts × HasDistinctTargets ts) more has in
    let rest = distinct-init items (frame_of object) whole.1 in (
      record {
        frames_at = place-gone frame_of holder_of (λ o q. refl) (λ o q. refl) frames new items object whole.0.frames_at rest.0 updates;
        holders_at = λ q. whole.0.holders_at q ∙ other-place frame_of holder_of (λ o q. refl) (λ o q. refl) items object q;
      },
      rest.1,
    )

-- ---- holders

pub holder-pushed : (frames holders new : BTreeMap ℕ ℕ) (live items : List Target) (object n : ℕ) → HasPlaces frames holders live × HasDistinctTargets live → place_of (holder_of object) live ≡ None → n ≡ length live
    → ((q : ℕ) → get nat_cmp new q ≡ cond (is_at (nat_cmp object) q) (Some n) (get nat_cmp holders q)) → items ≡ live ++ holder_of object ∷ [] → HasPlaces frames new items × HasDistinctTargets items
holder-pushed frames holders new live items object n has none is updates more =
    subst (λ (ts : List Target). HasPlaces frames new ts × HasDistinctTargets ts) (sym more) (
      record {
        frames_at = λ q. has.0.frames_at q ∙ sym (other-place holder_of frame_of (λ o q. refl) (λ o q. refl) live object q);
        holders_at = place-added holder_of frame_of (λ o q. refl) (λ o q. refl) holders new live object n has.0.holders_at none is updates;
      },
      distinct-push live (holder_of object) has.1 none,
    )

pub holder-popped : (frames holders new : BTreeMap ℕ ℕ) (live items : List Target) (object : ℕ) → HasPlaces frames holders live × HasDistinctTargets live → live ≡ items ++ holder_of object ∷ []
    → ((q : ℕ) → get nat_cmp new q ≡ cond (is_at (nat_cmp object) q) None (get nat_cmp holders q)) → HasPlaces frames new items × HasDistinctTargets items
holder-popped frames holders new live items object has more updates =
    let whole = subst (λ (ts : List Target). HasPlaces frames holders ts × HasDistinctTargets ts) more has in
    let rest = distinct-init items (holder_of object) whole.1 in (
      record {
        frames_at = λ q. whole.0.frames_at q ∙ other-place holder_of frame_of (λ o q. refl) (λ o q. refl) items object q;
        holders_at = place-gone holder_of frame_of (λ o q. refl) (λ o q. refl) holders new items object whole.0.holders_at rest.0 updates;
      },
      rest.1,
    )

-- The references that an end has, as the smaller end has them: what is live, what is known, and what is used and given.
use Rattle.std.proofs.Common.{◌≡◌, ℕ, zero, suc, ◌+◌, ◌-◌, ◌<◌, ◌≤◌, List, [], ◌∷◌, ◌++◌, length, Bool, true, false, Option, None, refl, sym, ap, ◌∙◌, inl, inr, arith}
use Rattle.std.specs.Prelude.{◌⊎◌, ◌==◌, ◌&&◌, ◌||◌, nat_lt, slice_get, if◌then◌else◌}
use Rattle.std.specs.List.{list_all}
use Rattle.std.specs.Set.{is_member}
use Rattle.std.proofs.lemmas.Bool.Decides.{nat_tests}
use Rattle.std.proofs.lemmas.List.{map-append}
use Rattle.dap_ends.specs.References.{Table, same_ref, same_kind as small_same_kind, IsWithin, all_in, references_from, live_refs, without_references as small_without}
use Rattle.dap_tables.specs.Known.{has_pair}
use Rattle.dap_tables.specs.References.{LiveReferences, target_of, is_of_kind, without_references}
use Rattle.dap_tables.specs.declared.reference_kind.ReferenceKind.{ReferenceKind}
use Rattle.dap_tables.specs.declared.reference_kind.ReferenceKind.TheVariants.{Frame, Holder}
use Rattle.dap_tables.specs.declared.target.Target.{Target}
use Rattle.dap_query.specs.References.{AreLive}
use Rattle.dap_client.proofs.ReferenceLemmas.{has-member, same-kinds}
use Rattle.dap_client.specs.Projection.{is_frame, reference_seen, references_seen}
use Rattle.dap_world.specs.Projection.{kinds_of, table_of}
use Rattle.dap_world.proofs.Booleans.{and-false, and-left, and-right, or-false, or-left-true, or-right-true}

-- ---- the table

pub kinds-append : (ts us : List Target) → kinds_of (ts ++ us) ≡ kinds_of ts ++ kinds_of us
kinds-append ts us = map-append (λ (t : Target). is_frame t.kind) ts us

pub length-kinds : (ts : List Target) → length (kinds_of ts) ≡ length ts
length-kinds [] = refl
length-kinds (t ∷ ts) = let ih = length-kinds ts in omega arith

-- where all die
pub table-without : (refs : LiveReferences) → table_of (without_references refs) ≡ small_without (table_of refs)
table-without refs =
    let same = length-kinds refs.live in
    let base : refs.base + length refs.live ≡ refs.base + length (kinds_of refs.live) = omega (arith, same) in
    ap (λ (n : ℕ). let t : Table = record { base = n; live = [] } in t) base

-- ---- what is live

apart : (m n : ℕ) → m < n → (m == n) ≡ false
apart m n h = grind (arith, nat_tests)

behind : (m n : ℕ) → n < m → (m == n) ≡ false
behind m n h = grind (arith, nat_tests)

equal : (n : ℕ) → (n == n) ≡ true
equal n = grind (arith, nat_tests)

below : (m n : ℕ) → m < n → nat_lt m n ≡ true
below m n h = grind (arith, nat_tests)

not-below : (m n : ℕ) → n ≤ m → nat_lt m n ≡ false
not-below m n h = grind (arith, nat_tests)

and-true : (b : Bool) → (b && true) ≡ b
and-true true = refl
and-true false = refl

-- a number that is dead
dead-member : (base n : ℕ) (k : ReferenceKind) (live : List Bool) → n ≤ base → is_member same_ref (references_from base live) (reference_seen (k, n)) ≡ false
dead-member base n k [] h = refl
dead-member base n k (b ∷ live) h =
    rw (apart n (base + 1) (omega (arith, h)), and-false (small_same_kind (is_frame k) b)) (dead-member (base + 1) n k live (omega (arith, h)))

-- one of those that were given since
place-member : (base i : ℕ) (k : ReferenceKind) (live : List Target) → is_member same_ref (references_from base (kinds_of live)) (reference_seen (k, base + 1 + i)) ≡ is_of_kind k (slice_get live i)
place-member base i k [] = refl
place-member base zero k (t ∷ live) =
    let e : base + 1 + 0 ≡ base + 1 = omega arith in
    let rest : is_member same_ref (references_from (base + 1) (kinds_of live)) (reference_seen (k, base + 1)) ≡ false = dead-member (base + 1) (base + 1) k (kinds_of live) (omega arith) in
    ap (λ (n : ℕ). (small_same_kind (is_frame k) (is_frame t.kind) && (n == base + 1)) || is_member same_ref (references_from (base + 1) (kinds_of live)) (reference_seen (k, n))) e
    ∙ rw (equal (base + 1), rest, and-true (small_same_kind (is_frame k) (is_frame t.kind)), or-false (small_same_kind (is_frame k) (is_frame t.kind))) (same-kinds k t.kind)
place-member base (suc i) k (t ∷ live) =
    let e : base + 1 + suc i ≡ base + 1 + 1 + i = omega arith in
    let far : (base + 1 + 1 + i == base + 1) ≡ false = behind (base + 1 + 1 + i) (base + 1) (omega arith) in
    ap (λ (n : ℕ). (small_same_kind (is_frame k) (is_frame t.kind) && (n == base + 1)) || is_member same_ref (references_from (base + 1) (kinds_of live)) (reference_seen (k, n))) e
    ∙ rw (far, and-false (small_same_kind (is_frame k) (is_frame t.kind))) (place-member (base + 1) i k live)

at-base : (n base : ℕ) → (n ≤ base) ⊎ ((i : ℕ) × (n ≡ base + 1 + i))
at-base zero base = inl (omega arith)
at-base (suc n) zero = inr (n, omega arith)
at-base (suc n) (suc base) = elim (at-base n base) [ inl h ↦ inl (omega (arith, h)) | inr p ↦ let e = p.1 in inr (p.0, omega (arith, e)) ]

none-of-kind : (b : Bool) (k : ReferenceKind) (o : Option Target) → b ≡ false → is_of_kind k (if b then o else None) ≡ false
none-of-kind b k o e = rw e refl

-- the smaller table has what the table has
pub live-member : (refs : LiveReferences) (p : ReferenceKind × ℕ) → is_member same_ref (live_refs (table_of refs)) (reference_seen p) ≡ is_of_kind p.0 (target_of refs p.1)
live-member refs (k, n) = by (at-base n refs.base)
  where
    by : ((n ≤ refs.base) ⊎ ((i : ℕ) × (n ≡ refs.base + 1 + i))) → is_member same_ref (live_refs (table_of refs)) (reference_seen (k, n)) ≡ is_of_kind k (target_of refs n)
    by (inl h) = dead-member refs.base n k (kinds_of refs.live) h ∙ sym (none-of-kind (nat_lt refs.base n) k (slice_get refs.live (n - refs.base - 1)) (not-below refs.base n h))
    by (inr (i, e)) =
        let some : nat_lt refs.base n ≡ true = below refs.base n (omega (arith, e)) in
        let place : n - refs.base - 1 ≡ i = omega (arith, e) in
        ap (λ (m : ℕ). is_member same_ref (references_from refs.base (kinds_of refs.live)) (reference_seen (k, m))) e
        ∙ (place-member refs.base i k refs.live
        ∙ (ap (λ (m : ℕ). is_of_kind k (slice_get refs.live m)) (sym place)
        ∙ ap (λ (b : Bool). is_of_kind k (if b then slice_get refs.live (n - refs.base - 1) else None)) (sym some)))

-- so what is live there is so here
pub all-live : (refs : LiveReferences) (ps : List (ReferenceKind × ℕ)) → AreLive refs ps → all_in (live_refs (table_of refs)) (references_seen ps) ≡ true
all-live refs [] h = refl
all-live refs (p ∷ ps) h = rw (live-member refs p ∙ h.0) (all-live refs ps h.1)

kind-self : (k : ReferenceKind) → small_same_kind (is_frame k) (is_frame k) ≡ true
kind-self Frame = refl
kind-self Holder = refl

pub seen-self : (p : ReferenceKind × ℕ) → same_ref (reference_seen p) (reference_seen p) ≡ true
seen-self p = rw (kind-self p.0, equal p.1) refl

pub are-live : (refs : LiveReferences) (ps : List (ReferenceKind × ℕ)) → IsWithin (references_seen ps) (live_refs (table_of refs)) → AreLive refs ps
are-live refs [] h = tt
are-live refs (p ∷ ps) h = (
  sym (live-member refs p) ∙ h (reference_seen p) (or-left-true (same_ref (reference_seen p) (reference_seen p)) (is_member same_ref (references_seen ps) (reference_seen p)) (seen-self p)),
  are-live refs ps (λ x e. h x (or-right-true (same_ref x (reference_seen p)) (is_member same_ref (references_seen ps) x) e)),
)

-- ---- what is known

pub all-known : (known ps : List (ReferenceKind × ℕ)) → list_all (λ p. has_pair p known) ps ≡ true → all_in (references_seen known) (references_seen ps) ≡ true
all-known known [] h = refl
all-known known (p ∷ ps) h =
    rw (has-member p known ∙ and-left (has_pair p known) (list_all (λ q. has_pair q known) ps) h) (all-known known ps (and-right (has_pair p known) (list_all (λ q. has_pair q known) ps) h))

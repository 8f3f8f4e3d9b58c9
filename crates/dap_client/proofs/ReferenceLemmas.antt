-- References as the model has them: which are the same, and what is known with those that are given.
use Rattle.std.proofs.Common.{◌≡◌, ℕ, List, [], ◌∷◌, ◌++◌, length, Bool, true, false, refl, sym, ap, ◌∙◌, arith}
use Rattle.std.specs.Prelude.{◌==◌, if◌then◌else◌}
use Rattle.std.specs.Set.{is_member}
use Rattle.std.proofs.lemmas.Bool.Decides.{nat_tests}
use Rattle.std.proofs.lemmas.List.{map-append}
use Rattle.dap_ends.specs.References.{Ref, same_ref, same_kind as small_same_kind, with_ref, with_refs}
use Rattle.dap_tables.specs.Known.{is_pair, has_pair, with_pair, with_pairs}
use Rattle.dap_tables.specs.References.{same_kind}
use Rattle.dap_tables.specs.declared.reference_kind.ReferenceKind.{ReferenceKind}
use Rattle.dap_tables.specs.declared.reference_kind.ReferenceKind.TheVariants.{Frame, Holder}
use Rattle.dap_client.specs.Projection.{is_frame, reference_seen, references_seen}

pub same-kinds : (k j : ReferenceKind) → small_same_kind (is_frame k) (is_frame j) ≡ same_kind j k
same-kinds Frame Frame = refl
same-kinds Frame Holder = refl
same-kinds Holder Frame = refl
same-kinds Holder Holder = refl

eqb-turned : (m n : ℕ) → (m == n) ≡ (n == m)
eqb-turned m n = grind (arith, nat_tests)

pair-seen : (p q : ReferenceKind × ℕ) → same_ref (reference_seen p) (reference_seen q) ≡ is_pair q p
pair-seen p q = rw (same-kinds p.0 q.0, eqb-turned p.1 q.1) refl

pub has-member : (p : ReferenceKind × ℕ) (ps : List (ReferenceKind × ℕ)) → is_member same_ref (references_seen ps) (reference_seen p) ≡ has_pair p ps
has-member p [] = refl
has-member p (q ∷ ps) = rw (pair-seen p q, has-member p ps) refl

-- one more, unless it is known
one-if : (b : Bool) (p : ReferenceKind × ℕ) (known : List (ReferenceKind × ℕ)) → references_seen (if b then known else known ++ p ∷ []) ≡ (if b then references_seen known else references_seen known ++ reference_seen p ∷ [])
one-if true p known = refl
one-if false p known = map-append reference_seen known (p ∷ [])

one-seen : (p : ReferenceKind × ℕ) (known : List (ReferenceKind × ℕ)) → references_seen (with_pair p known) ≡ with_ref (reference_seen p) (references_seen known)
one-seen p known = one-if (has_pair p known) p known ∙ ap (λ (b : Bool). if b then references_seen known else references_seen known ++ reference_seen p ∷ []) (sym (has-member p known))

pub with-seen : (ps known : List (ReferenceKind × ℕ)) → references_seen (with_pairs ps known) ≡ with_refs (references_seen ps) (references_seen known)
with-seen [] known = refl
with-seen (p ∷ ps) known = with-seen ps (with_pair p known) ∙ ap (λ (xs : List Ref). with_refs (references_seen ps) xs) (one-seen p known)

pub length-seen : (ps : List (ReferenceKind × ℕ)) → length (references_seen ps) ≡ length ps
length-seen [] = refl
length-seen (p ∷ ps) = let ih = length-seen ps in omega arith

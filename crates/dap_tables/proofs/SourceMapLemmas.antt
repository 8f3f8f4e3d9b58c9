-- How much a map from sources to lists holds, and what is true of it, once the list of a source is put in place.
use Rattle.std.proofs.Common.{◌≡◌, ◌+◌, ◌<◌, ◌≤◌, lit≤, List, [], ◌∷◌, Bool, true, false, not, length, refl, sym, ap, subst, ◌∙◌, arith}
use Rattle.std.specs.Prelude.{if◌then◌else◌}
use Rattle.std.specs.List.{list_any}
use Rattle.dap_command.specs.declared.source_key.SourceKey.{SourceKey}
use Rattle.dap_tables.specs.SourceMap.{OfSource, comes_before, set_of, count, of_others, in_place, with_set, HasDistinctSources, HasNoEmptyList}
use Rattle.dap_command.specs.SameSource.{is_source}
use Rattle.dap_tables.specs.Ors.{or-left, or-right}
use Rattle.dap_tables.specs.SourceMapLaws.{same-source, turned, any-others, none-left, any-place}

module _ {T : Type 0} where
  -- ---- how many there are

  count-place-by : (b : Bool) (s t : OfSource T) (xs : List (OfSource T)) → count (in_place s xs) ≡ length s.set + count xs → count (if b then s ∷ t ∷ xs else t ∷ in_place s xs) ≡ length s.set + count (t ∷ xs)
  count-place-by true s t xs more = refl
  count-place-by false s t xs more = omega arith

  count-place : (s : OfSource T) (xs : List (OfSource T)) → count (in_place s xs) ≡ length s.set + count xs
  count-place s [] = omega arith
  count-place s (t ∷ xs) = count-place-by (comes_before s.source t.source) s t xs (count-place s xs)

  pub count-with : (key : SourceKey) (set : List T) (ss : List (OfSource T)) → count (with_set key set ss) ≡ count ss + length set
  count-with key [] ss = omega arith
  count-with key (b ∷ set) ss = let all = count-place (record { source = key; set = b ∷ set }) ss in omega arith

  all-others : (key : SourceKey) (ss : List (OfSource T)) → list_any (λ t. is_source key t.source) ss ≡ false → of_others key ss ≡ ss
  all-others key [] h = refl
  all-others key (s ∷ ss) h =
      ap (λ b. if not b then s ∷ of_others key ss else of_others key ss) (or-left (is_source key s.source) (list_any (λ (t : OfSource T). is_source key t.source) ss) h)
      ∙ ap (λ (xs : List (OfSource T)). s ∷ xs) (all-others key ss (or-right (is_source key s.source) (list_any (λ (t : OfSource T). is_source key t.source) ss) h))

  count-by : (b : Bool) (key : SourceKey) (s : OfSource T) (ss : List (OfSource T)) → is_source key s.source ≡ b → HasDistinctSources (s ∷ ss) → count (of_others key ss) + length (set_of key ss) ≡ count ss
      → count (if not b then s ∷ of_others key ss else of_others key ss) + length (if b then s.set else set_of key ss) ≡ count (s ∷ ss)
  count-by true key s ss is d more =
      let none : list_any (λ (t : OfSource T). is_source key t.source) ss ≡ false = subst (λ (k : SourceKey). list_any (λ (t : OfSource T). is_source k t.source) ss ≡ false) (sym (same-source key s.source is)) d.0 in
      let rest = ap (λ (xs : List (OfSource T)). count xs) (all-others key ss none) in
      omega arith
  count-by false key s ss is d more = omega arith

  pub count-others : (key : SourceKey) (ss : List (OfSource T)) → HasDistinctSources ss → count (of_others key ss) + length (set_of key ss) ≡ count ss
  count-others key [] d = refl
  count-others key (s ∷ ss) d = count-by (is_source key s.source) key s ss refl d (count-others key ss d.1)

  -- ---- what is true of every table

  distinct-by : (b : Bool) (s : OfSource T) (key : SourceKey) (ss : List (OfSource T)) → HasDistinctSources (s ∷ ss) → HasDistinctSources (of_others key ss) → HasDistinctSources (if not b then s ∷ of_others key ss else of_others key ss)
  distinct-by true s key ss d more = more
  distinct-by false s key ss d more = (any-others (λ (t : OfSource T). is_source s.source t.source) key ss d.0, more)

  distinct-others : (key : SourceKey) (ss : List (OfSource T)) → HasDistinctSources ss → HasDistinctSources (of_others key ss)
  distinct-others key [] d = tt
  distinct-others key (s ∷ ss) d = distinct-by (is_source key s.source) s key ss d (distinct-others key ss d.1)

  distinct-place-by : (b : Bool) (s t : OfSource T) (xs : List (OfSource T)) → HasDistinctSources (t ∷ xs) → list_any (λ u. is_source s.source u.source) (t ∷ xs) ≡ false → HasDistinctSources (in_place s xs) → HasDistinctSources (if b then s ∷ t ∷ xs else t ∷ in_place s xs)
  distinct-place-by true s t xs d h more = (h, d)
  distinct-place-by false s t xs d h more =
      (any-place (λ (u : OfSource T). is_source t.source u.source) s xs (turned t.source s.source ∙ or-left (is_source s.source t.source) (list_any (λ (u : OfSource T). is_source s.source u.source) xs) h) d.0, more)

  distinct-place : (s : OfSource T) (xs : List (OfSource T)) → HasDistinctSources xs → list_any (λ u. is_source s.source u.source) xs ≡ false → HasDistinctSources (in_place s xs)
  distinct-place s [] d h = (refl, tt)
  distinct-place s (t ∷ xs) d h =
      distinct-place-by (comes_before s.source t.source) s t xs d h (distinct-place s xs d.1 (or-right (is_source s.source t.source) (list_any (λ (u : OfSource T). is_source s.source u.source) xs) h))

  pub distinct-with : (key : SourceKey) (set : List T) (ss : List (OfSource T)) → HasDistinctSources ss → HasDistinctSources (with_set key set (of_others key ss))
  distinct-with key [] ss d = distinct-others key ss d
  distinct-with key (b ∷ set) ss d = distinct-place (record { source = key; set = b ∷ set }) (of_others key ss) (distinct-others key ss d) (none-left key ss)

  filled-by : (b : Bool) (s : OfSource T) (xs : List (OfSource T)) → 0 < length s.set → HasNoEmptyList xs → HasNoEmptyList (if not b then s ∷ xs else xs)
  filled-by true s xs f more = more
  filled-by false s xs f more = (f, more)

  pub filled-others : (key : SourceKey) (ss : List (OfSource T)) → HasNoEmptyList ss → HasNoEmptyList (of_others key ss)
  filled-others key [] f = tt
  filled-others key (s ∷ ss) f = filled-by (is_source key s.source) s (of_others key ss) f.0 (filled-others key ss f.1)

  filled-place-by : (b : Bool) (s t : OfSource T) (xs : List (OfSource T)) → 0 < length s.set → HasNoEmptyList (t ∷ xs) → HasNoEmptyList (in_place s xs) → HasNoEmptyList (if b then s ∷ t ∷ xs else t ∷ in_place s xs)
  filled-place-by true s t xs f g more = (f, g)
  filled-place-by false s t xs f g more = (g.0, more)

  pub filled-place : (s : OfSource T) (xs : List (OfSource T)) → 0 < length s.set → HasNoEmptyList xs → HasNoEmptyList (in_place s xs)
  filled-place s [] f g = (f, tt)
  filled-place s (t ∷ xs) f g = filled-place-by (comes_before s.source t.source) s t xs f g (filled-place s xs f g.1)

  pub filled-with : (key : SourceKey) (set : List T) (ss : List (OfSource T)) → HasNoEmptyList ss → HasNoEmptyList (with_set key set (of_others key ss))
  filled-with key [] ss f = filled-others key ss f
  filled-with key (b ∷ set) ss f = filled-place (record { source = key; set = b ∷ set }) (of_others key ss) (omega arith) (filled-others key ss f)

  -- ---- none at all

  pub count-none : (ss : List (OfSource T)) → HasNoEmptyList ss → count ss ≡ 0 → ss ≡ []
  count-none [] f h = refl
  count-none (s ∷ ss) f h = let some = f.0 in absurd (omega arith)

  pub few-entries : (ss : List (OfSource T)) → HasNoEmptyList ss → length ss ≤ count ss
  few-entries [] f = lit≤ tt
  few-entries (s ∷ ss) f = let some = f.0 in let rest = few-entries ss f.1 in omega arith

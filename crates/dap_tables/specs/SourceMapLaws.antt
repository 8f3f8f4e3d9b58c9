-- What a map from sources to lists has once the list of a source is put in place: that source has the list, and each other one what it had.
use Rattle.std.proofs.Common.{◌≡◌, ℕ, List, [], ◌∷◌, Bool, true, false, not, refl, sym, ap, subst, ◌∙◌, true≢false, eq-eqb}
use Rattle.std.proofs.lemmas.Bool.{eqb-true}
use Rattle.std.specs.Prelude.{◌||◌, if◌then◌else◌}
use Rattle.std.specs.List.{list_any}
use Rattle.std.proofs.lemmas.Slice.Eq.{bytes_eq-Decides}
use Rattle.dap_command.specs.declared.source_key.SourceKey.{SourceKey}
use Rattle.dap_command.specs.declared.source_key.SourceKey.TheVariants.{Path, Reference}
use Rattle.dap_tables.specs.SourceMap.{OfSource, comes_before, set_of, of_others, in_place, with_set}
use Rattle.dap_command.specs.SameSource.{is_source}
use Rattle.dap_tables.specs.Ors.{or-false, or-left, or-right}

-- ---- names

pub same-source : (a b : SourceKey) → is_source a b ≡ true → a ≡ b
same-source (Path p) (Path q) h = ap (λ (x : List ℕ). Path x) ((bytes_eq-Decides p q).0 h)
same-source (Reference m) (Reference n) h = ap (λ (x : ℕ). Reference x) (eqb-true m n h)
same-source (Path p) (Reference n) h = absurd (true≢false (sym h))
same-source (Reference m) (Path q) h = absurd (true≢false (sym h))

own-source : (a : SourceKey) → is_source a a ≡ true
own-source (Path p) = (bytes_eq-Decides p p).1 refl
own-source (Reference n) = eq-eqb n n refl

turned-by : (b c : Bool) → (b ≡ true → c ≡ true) → (c ≡ true → b ≡ true) → b ≡ c
turned-by true c f g = sym (f refl)
turned-by false true f g = g refl
turned-by false false f g = refl

pub turned : (a b : SourceKey) → is_source a b ≡ is_source b a
turned a b = turned-by (is_source a b) (is_source b a)
    (λ h. subst (λ (k : SourceKey). is_source k a ≡ true) (same-source a b h) (own-source a))
    (λ h. subst (λ (k : SourceKey). is_source k b ≡ true) (same-source b a h) (own-source b))

-- a name that differs from another differs from all that are the other
apart : (key other name : SourceKey) → is_source key other ≡ false → is_source key name ≡ true → is_source other name ≡ false
apart key other name h e = subst (λ (k : SourceKey). is_source other k ≡ false) (same-source key name e) (turned other key ∙ h)

pick : {A : Type 0} (b : Bool) (x y : A) → b ≡ true → (if b then x else y) ≡ x
pick true x y h = refl
pick false x y h = absurd (true≢false (sym h))

skip : {A : Type 0} (b : Bool) (x y : A) → b ≡ false → (if b then x else y) ≡ y
skip true x y h = absurd (true≢false h)
skip false x y h = refl

module _ {T : Type 0} where
  -- ---- whether a source has a list

  any-others-by : (b : Bool) (p : OfSource T → Bool) (s : OfSource T) (xs ss : List (OfSource T)) → list_any p (s ∷ ss) ≡ false → (list_any p ss ≡ false → list_any p xs ≡ false) → list_any p (if not b then s ∷ xs else xs) ≡ false
  any-others-by true p s xs ss h f = f (or-right (p s) (list_any p ss) h)
  any-others-by false p s xs ss h f = or-false (p s) (list_any p xs) (or-left (p s) (list_any p ss) h) (f (or-right (p s) (list_any p ss) h))

  pub any-others : (p : OfSource T → Bool) (key : SourceKey) (ss : List (OfSource T)) → list_any p ss ≡ false → list_any p (of_others key ss) ≡ false
  any-others p key [] h = refl
  any-others p key (s ∷ ss) h = any-others-by (is_source key s.source) p s (of_others key ss) ss h (any-others p key ss)

  none-by : (b : Bool) (key : SourceKey) (s : OfSource T) (xs : List (OfSource T)) → is_source key s.source ≡ b → list_any (λ t. is_source key t.source) xs ≡ false → list_any (λ t. is_source key t.source) (if not b then s ∷ xs else xs) ≡ false
  none-by true key s xs is h = h
  none-by false key s xs is h = or-false (is_source key s.source) (list_any (λ (t : OfSource T). is_source key t.source) xs) is h

  pub none-left : (key : SourceKey) (ss : List (OfSource T)) → list_any (λ t. is_source key t.source) (of_others key ss) ≡ false
  none-left key [] = refl
  none-left key (s ∷ ss) = none-by (is_source key s.source) key s (of_others key ss) refl (none-left key ss)

  any-place-by : (b : Bool) (p : OfSource T → Bool) (s t : OfSource T) (xs : List (OfSource T)) → p s ≡ false → p t ≡ false → list_any p xs ≡ false → list_any p (in_place s xs) ≡ false → list_any p (if b then s ∷ t ∷ xs else t ∷ in_place s xs) ≡ false
  any-place-by true p s t xs h k rest more = or-false (p s) (p t || list_any p xs) h (or-false (p t) (list_any p xs) k rest)
  any-place-by false p s t xs h k rest more = or-false (p t) (list_any p (in_place s xs)) k more

  pub any-place : (p : OfSource T → Bool) (s : OfSource T) (xs : List (OfSource T)) → p s ≡ false → list_any p xs ≡ false → list_any p (in_place s xs) ≡ false
  any-place p s [] h k = or-false (p s) false h refl
  any-place p s (t ∷ xs) h k =
      any-place-by (comes_before s.source t.source) p s t xs h (or-left (p t) (list_any p xs) k) (or-right (p t) (list_any p xs) k) (any-place p s xs h (or-right (p t) (list_any p xs) k))

  -- ---- what a source has

  set-absent : (key : SourceKey) (ss : List (OfSource T)) → list_any (λ t. is_source key t.source) ss ≡ false → set_of key ss ≡ []
  set-absent key [] h = refl
  set-absent key (s ∷ ss) h =
      skip (is_source key s.source) s.set (set_of key ss) (or-left (is_source key s.source) (list_any (λ (t : OfSource T). is_source key t.source) ss) h)
      ∙ set-absent key ss (or-right (is_source key s.source) (list_any (λ (t : OfSource T). is_source key t.source) ss) h)

  set-place-by : (b : Bool) (s t : OfSource T) (xs : List (OfSource T)) → is_source s.source t.source ≡ false → set_of s.source (in_place s xs) ≡ s.set → set_of s.source (if b then s ∷ t ∷ xs else t ∷ in_place s xs) ≡ s.set
  set-place-by true s t xs h more = pick (is_source s.source s.source) s.set (set_of s.source (t ∷ xs)) (own-source s.source)
  set-place-by false s t xs h more = skip (is_source s.source t.source) t.set (set_of s.source (in_place s xs)) h ∙ more

  set-place : (s : OfSource T) (xs : List (OfSource T)) → list_any (λ t. is_source s.source t.source) xs ≡ false → set_of s.source (in_place s xs) ≡ s.set
  set-place s [] h = pick (is_source s.source s.source) s.set [] (own-source s.source)
  set-place s (t ∷ xs) h =
      set-place-by (comes_before s.source t.source) s t xs (or-left (is_source s.source t.source) (list_any (λ (u : OfSource T). is_source s.source u.source) xs) h)
      (set-place s xs (or-right (is_source s.source t.source) (list_any (λ (u : OfSource T). is_source s.source u.source) xs) h))

  pub set-with : (key : SourceKey) (set : List T) (ss : List (OfSource T)) → set_of key (with_set key set (of_others key ss)) ≡ set
  set-with key [] ss = set-absent key (of_others key ss) (none-left key ss)
  set-with key (b ∷ set) ss = set-place (record { source = key; set = b ∷ set }) (of_others key ss) (none-left key ss)

  other-others-by : (b : Bool) (key other : SourceKey) (s : OfSource T) (xs ss : List (OfSource T)) → is_source key s.source ≡ b → is_source key other ≡ false → set_of other xs ≡ set_of other ss → set_of other (if not b then s ∷ xs else xs) ≡ set_of other (s ∷ ss)
  other-others-by true key other s xs ss is h more = more ∙ sym (skip (is_source other s.source) s.set (set_of other ss) (apart key other s.source h is))
  other-others-by false key other s xs ss is h more = ap (λ (rest : List T). if is_source other s.source then s.set else rest) more

  other-others : (key other : SourceKey) (ss : List (OfSource T)) → is_source key other ≡ false → set_of other (of_others key ss) ≡ set_of other ss
  other-others key other [] h = refl
  other-others key other (s ∷ ss) h = other-others-by (is_source key s.source) key other s (of_others key ss) ss refl h (other-others key other ss h)

  other-place-by : (b : Bool) (other : SourceKey) (s t : OfSource T) (xs : List (OfSource T)) → is_source other s.source ≡ false → set_of other (in_place s xs) ≡ set_of other xs → set_of other (if b then s ∷ t ∷ xs else t ∷ in_place s xs) ≡ set_of other (t ∷ xs)
  other-place-by true other s t xs h more = skip (is_source other s.source) s.set (set_of other (t ∷ xs)) h
  other-place-by false other s t xs h more = ap (λ (rest : List T). if is_source other t.source then t.set else rest) more

  other-place : (other : SourceKey) (s : OfSource T) (xs : List (OfSource T)) → is_source other s.source ≡ false → set_of other (in_place s xs) ≡ set_of other xs
  other-place other s [] h = skip (is_source other s.source) s.set [] h
  other-place other s (t ∷ xs) h = other-place-by (comes_before s.source t.source) other s t xs h (other-place other s xs h)

  pub other-with : (key other : SourceKey) (set : List T) (ss : List (OfSource T)) → is_source key other ≡ false → set_of other (with_set key set (of_others key ss)) ≡ set_of other ss
  other-with key other [] ss h = other-others key other ss h
  other-with key other (b ∷ set) ss h = other-place other (record { source = key; set = b ∷ set }) (of_others key ss) (turned other key ∙ h) ∙ other-others key other ss h

  -- the one that is named has it, and each other one what it had
  set-of-by : (b : Bool) (key other : SourceKey) (set : List T) (ss : List (OfSource T)) → is_source key other ≡ b → set_of other (with_set key set (of_others key ss)) ≡ (if b then set else set_of other ss)
  set-of-by true key other set ss is = ap (λ k. set_of k (with_set key set (of_others key ss))) (sym (same-source key other is)) ∙ set-with key set ss
  set-of-by false key other set ss is = other-with key other set ss is

  pub set-of-put : (key other : SourceKey) (set : List T) (ss : List (OfSource T)) → set_of other (with_set key set (of_others key ss)) ≡ (if is_source key other then set else set_of other ss)
  set-of-put key other set ss = set-of-by (is_source key other) key other set ss refl

-- A finite map from sources to lists, without empty lists.
--
-- That a path and a reference are two names, with two lists, is this profile's choice.
use Rattle.std.specs.Prelude.{◌≡◌, ℕ, ◌+◌, ◌<◌, List, [], ◌∷◌, length, filter, not, Bool, true, false, if◌then◌else◌}
use Rattle.std.specs.List.{list_any}
use Rattle.std.specs.Ordering.{is_lt, nat_cmp}
use Rattle.std.specs.Cmp.Lexicographic.{slice_cmp}
use Rattle.dap_command.specs.SameSource.{is_source}
use Rattle.dap_command.specs.declared.source_key.SourceKey.{SourceKey}
use Rattle.dap_command.specs.declared.source_key.SourceKey.TheVariants.{Path, Reference}

-- what is set for one source
pub record OfSource (A : Type 0) : Type 0 where
  pub source : SourceKey
  pub set : List A

-- The sources stand in the order of their names: paths by their bytes, then references.
abbrev pub comes_before : SourceKey → SourceKey → Bool
comes_before (Path p) (Path q) = is_lt (slice_cmp nat_cmp p q)
comes_before (Path p) (Reference n) = true
comes_before (Reference n) (Path p) = false
comes_before (Reference m) (Reference n) = is_lt (nat_cmp m n)

-- what is set for a source, nothing where it has no list
abbrev pub set_of : {A : Type 0} → SourceKey → List (OfSource A) → List A
set_of key [] = []
set_of key (s ∷ sources) = if is_source key s.source then s.set else set_of key sources

-- how much there is together
abbrev pub count : {A : Type 0} → List (OfSource A) → ℕ
count [] = 0
count (s ∷ sources) = length s.set + count sources

abbrev pub of_others : {A : Type 0} → SourceKey → List (OfSource A) → List (OfSource A)
of_others key sources = filter (λ s. not (is_source key s.source)) sources

-- one more source, in its place by name
abbrev pub in_place : {A : Type 0} → OfSource A → List (OfSource A) → List (OfSource A)
in_place s [] = s ∷ []
in_place s (t ∷ sources) = if comes_before s.source t.source then s ∷ t ∷ sources else t ∷ in_place s sources

-- an empty list is none
abbrev pub with_set : {A : Type 0} → SourceKey → List A → List (OfSource A) → List (OfSource A)
with_set key [] sources = sources
with_set key (b ∷ set) sources = in_place (record { source = key; set = b ∷ set }) sources

-- the list of one source in place of the one that it has
abbrev pub with_set_for : {A : Type 0} → SourceKey → List A → List (OfSource A) → List (OfSource A)
with_set_for key set sources = with_set key set (of_others key sources)

-- ---- what is true of every map

-- no source comes twice
abbrev pub HasDistinctSources : {A : Type 0} → List (OfSource A) → Type 0
HasDistinctSources [] = Unit {0}
HasDistinctSources (s ∷ sources) = (list_any (λ t. is_source s.source t.source) sources ≡ false) × HasDistinctSources sources

-- no list is empty
abbrev pub HasNoEmptyList : {A : Type 0} → List (OfSource A) → Type 0
HasNoEmptyList [] = Unit {0}
HasNoEmptyList (s ∷ sources) = (0 < length s.set) × HasNoEmptyList sources

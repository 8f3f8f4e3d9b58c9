-- The references that a peer gave, each with its kind, as a set: no pair is held twice.
-- Overview, "Lifetime of Objects References". That only so many are held is this profile's choice.
use Rattle.std.specs.Prelude.{◌≡◌, ℕ, ◌≤◌, ◌<◌, ◌==◌, ◌&&◌, List, [], ◌∷◌, ◌++◌, length, Bool, false, if◌then◌else◌}
use Rattle.std.specs.List.{list_any}
use Rattle.dap_tables.specs.declared.reference_kind.ReferenceKind.{ReferenceKind}
use Rattle.dap_tables.specs.References.{same_kind}

-- the pairs held, in the order in which they were first given, and how many there is room for
pub record KnownReferences : Type 0 where
  pub room : ℕ
  pub pairs : List (ReferenceKind × ℕ)

-- the same kind and the same number
abbrev pub is_pair : ReferenceKind × ℕ → ReferenceKind × ℕ → Bool
is_pair p q = same_kind p.0 q.0 && (p.1 == q.1)

-- whether a pair is held
abbrev pub has_pair : ReferenceKind × ℕ → List (ReferenceKind × ℕ) → Bool
has_pair p pairs = list_any (λ q. is_pair q p) pairs

-- one more, unless it is held
abbrev pub with_pair : ReferenceKind × ℕ → List (ReferenceKind × ℕ) → List (ReferenceKind × ℕ)
with_pair p pairs = if has_pair p pairs then pairs else pairs ++ p ∷ []

-- those that are given, each once, behind those that are held
abbrev pub with_pairs : List (ReferenceKind × ℕ) → List (ReferenceKind × ℕ) → List (ReferenceKind × ℕ)
with_pairs [] pairs = pairs
with_pairs (p ∷ ps) pairs = with_pairs ps (with_pair p pairs)

-- the same, of a table, and how many it would hold
abbrev pub known_with_pairs : List (ReferenceKind × ℕ) → KnownReferences → KnownReferences
known_with_pairs given table = record table { pairs = with_pairs given table.pairs }

abbrev pub count_known_with : List (ReferenceKind × ℕ) → KnownReferences → ℕ
count_known_with given table = length (with_pairs given table.pairs)

-- no pair is held twice
abbrev pub HasDistinctPairs : List (ReferenceKind × ℕ) → Type 0
HasDistinctPairs [] = Unit {0}
HasDistinctPairs (p ∷ pairs) = (has_pair p pairs ≡ false) × HasDistinctPairs pairs

-- what is true of every table of known references
pub record IsSet (table : KnownReferences) : Type 0 where
  pub bound : length table.pairs ≤ table.room
  pub distinct : HasDistinctPairs table.pairs

-- some of those that are given are not held, and there is room for one: only then memory is taken
pub record TakesRoom (given : List (ReferenceKind × ℕ)) (table : KnownReferences) : Type 0 where
  pub new : length table.pairs < length (with_pairs given table.pairs)
  pub room : length table.pairs < table.room

-- How the lines that are set are kept: as they were set, and beside each the one that is at its place in rising order.
-- Only private clauses, invariants and proofs cite this file.
use Rattle.std.specs.Prelude.{ℕ, List, [], ◌∷◌, map}
use Rattle.std.specs.List.Sorted.{IsPermutation, IsNonDecreasing}
use Rattle.dap_tables.specs.SourceMap.{OfSource}
use Rattle.dap_replay.specs.declared.set_lines.SetLine.{SetLine}

abbrev pub lines_of : List SetLine → List ℕ
lines_of set = map (λ l. l.line) set

abbrev pub rising_of : List SetLine → List ℕ
rising_of set = map (λ l. l.rising) set

-- both are the same lines, and these rise
pub record IsRising (set : List SetLine) : Type 0 where
  pub same : IsPermutation (lines_of set) (rising_of set)
  pub rises : IsNonDecreasing (rising_of set)

abbrev pub source_lines : OfSource SetLine → OfSource ℕ
source_lines s = record { source = s.source; set = lines_of s.set }

abbrev pub all_lines : List (OfSource SetLine) → List (OfSource ℕ)
all_lines sources = map source_lines sources

abbrev pub AllRise : List (OfSource SetLine) → Type 0
AllRise [] = Unit {0}
AllRise (s ∷ sources) = IsRising s.set × AllRise sources

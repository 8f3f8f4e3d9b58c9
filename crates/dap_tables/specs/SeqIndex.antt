-- The index of the table of requests: a key for each number. Only private clauses cite this.
use Rattle.std.specs.Prelude.{◌≡◌, ℕ, List, [], ◌∷◌, if◌then◌else◌, ◌==◌, Option, Some, None}

-- numbers with their keys, and how many there is room for
pub record Index : Type 0 where
  pub room : ℕ
  pub pairs : List (ℕ × ℕ)

-- the key of the first pair that has the number
abbrev pub key_for : ℕ → List (ℕ × ℕ) → Option ℕ
key_for seq [] = None
key_for seq ((number, key) ∷ rest) = if number == seq then Some key else key_for seq rest

-- the new pairs have this at the number, and at every other number what the old ones have
abbrev pub Gets : List (ℕ × ℕ) → List (ℕ × ℕ) → ℕ → Option ℕ → Type 0
Gets old new seq key = (other : ℕ) → key_for other new ≡ (if seq == other then key else key_for other old)

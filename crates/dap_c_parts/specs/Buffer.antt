-- Bytes that are put into a buffer of the caller's.
use Rattle.std.specs.Prelude.{◌≡◌, ◌<◌, ℕ, List, ◌++◌, length, drop}

-- a buffer with these bytes in front, and behind them what was there
abbrev pub with_front : List ℕ → List ℕ → List ℕ
with_front bytes old = bytes ++ drop (length bytes) old

-- with the code 105 a buffer is too small for these bytes, and stays as it was
abbrev pub StaysIfSmall : List ℕ → ℕ → List ℕ → List ℕ → Type 0
StaysIfSmall bytes code old new = code ≡ 105 → (length old < length bytes) × (new ≡ old)

-- Help laid out for a terminal: only what is between words changes.
use Rattle.std.specs.Prelude.{ℕ, ◌==◌, Bool, ◌||◌, nat_lt, List, length, filter}
use Rattle.std.specs.List.{slice_split}

-- a space, or the end of a line
abbrev pub is_between_words : ℕ → Bool
is_between_words c = c == 32 || c == 10

-- what is between blanks, in order
abbrev pub words : List ℕ → List (List ℕ)
words text = filter (λ word. nat_lt 0 (length word)) (slice_split is_between_words text)

-- The pieces of a text that is told in several events: at most 128 bytes each, whole characters.
-- This profile's choice.
use Rattle.std.specs.Prelude.{◌≡◌, ℕ, zero, suc, ◌||◌, ◌&&◌, Bool, nat_le, nat_lt, slice_index, List, [], ◌∷◌, length, take, drop, Option, Some, None, IsTrue, if◌then◌else◌}
use Rattle.std.specs.List.{list_all, flat_map}

-- a place of a text where a character ends or begins
abbrev pub is_boundary : List ℕ → ℕ → Bool
is_boundary text n = nat_le (length text) n || (nat_lt (slice_index text n) 128 || nat_le 192 (slice_index text n))

-- the greatest such place from 1 to n; all 128 bytes where there is none, as in no text, whose characters have 4 at most
abbrev pub boundary_up_to : List ℕ → ℕ → ℕ
boundary_up_to text zero = 128
boundary_up_to text (suc n) = if is_boundary text (suc n) then suc n else boundary_up_to text n

-- the length of the first piece: at most 128 bytes, whole characters
abbrev pub piece_length : List ℕ → ℕ
piece_length text = if nat_le (length text) 128 then length text else boundary_up_to text 128

-- a piece and what is left after it
abbrev pub first_piece : List (List ℕ) → Option (List ℕ × List (List ℕ))
first_piece [] = None
first_piece ([] ∷ texts) = first_piece texts
first_piece ((c ∷ cs) ∷ texts) = Some (take (piece_length (c ∷ cs)) (c ∷ cs), drop (piece_length (c ∷ cs)) (c ∷ cs) ∷ texts)

abbrev pub joined_text : List (List ℕ) → List ℕ
joined_text texts = flat_map (λ text. text) texts

abbrev pub and_then : (List (List ℕ) → List (List ℕ)) → Option (List ℕ × List (List ℕ)) → List (List ℕ)
and_then others None = []
and_then others (Some (piece, rest)) = piece ∷ others rest

-- the first n pieces, or all where they are fewer
abbrev pub first_pieces : ℕ → List (List ℕ) → List (List ℕ)
first_pieces zero texts = []
first_pieces (suc n) texts = and_then (first_pieces n) (first_piece texts)

-- all pieces: no more than there are bytes
abbrev pub pieces : List (List ℕ) → List (List ℕ)
pieces texts = first_pieces (length (joined_text texts)) texts

-- Pieces are the whole output: none is empty, and none has more than 128 bytes.
abbrev pub PiecesAreTheOutput : Type 0
PiecesAreTheOutput = (texts : List (List ℕ)) → (joined_text (pieces texts) ≡ joined_text texts) × IsTrue (list_all (λ piece. nat_le 1 (length piece) && nat_le (length piece) 128) (pieces texts))

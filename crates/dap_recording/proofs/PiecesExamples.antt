-- Worked examples of the pieces of texts, each shown by computation.
use Rattle.std.proofs.Common.{◌≡◌, [], ◌∷◌, ◌++◌, codes, replicate, Some, None, refl}
use Rattle.dap_recording.specs.Pieces.{piece_length, first_piece, joined_text, first_pieces, pieces}

-- é is 195 169
whole_pieces : (piece_length (replicate 128 97) ≡ 128) × (piece_length (replicate 129 97) ≡ 128) × (piece_length (replicate 127 97 ++ 195 ∷ 169 ∷ []) ≡ 127) × (piece_length (replicate 126 97 ++ 195 ∷ 169 ∷ 97 ∷ []) ≡ 128) × (piece_length (replicate 128 97 ++ 195 ∷ 169 ∷ []) ≡ 128)
whole_pieces = (refl, refl, refl, refl, refl)

-- 240 159 152 128 is one character; 125 bytes before it leave no room
four_bytes : (piece_length (replicate 125 97 ++ 240 ∷ 159 ∷ 152 ∷ 128 ∷ []) ≡ 125) × (piece_length (replicate 124 97 ++ 240 ∷ 159 ∷ 152 ∷ 128 ∷ 97 ∷ []) ≡ 128)
four_bytes = (refl, refl)

-- moments without output give no piece, and no piece is of two moments
first_of_moments : (first_piece ([] ∷ codes "a" ∷ codes "b" ∷ []) ≡ Some (codes "a", [] ∷ codes "b" ∷ [])) × (first_piece ([] ∷ [] ∷ []) ≡ None) × (first_piece [] ≡ None)
first_of_moments = (refl, refl, refl)

joined_texts : (joined_text (codes "ab" ∷ [] ∷ codes "c" ∷ []) ≡ codes "abc") × (joined_text [] ≡ [])
joined_texts = (refl, refl)

-- each text by itself, and an empty one gives none
pieces_of_texts : (pieces (codes "ab" ∷ [] ∷ codes "c" ∷ []) ≡ codes "ab" ∷ codes "c" ∷ []) × (pieces ([] ∷ []) ≡ []) × (pieces [] ≡ [])
pieces_of_texts = (refl, refl, refl)

long_text : (pieces (replicate 130 97 ∷ []) ≡ replicate 128 97 ∷ replicate 2 97 ∷ []) × (pieces (replicate 256 97 ∷ []) ≡ replicate 128 97 ∷ replicate 128 97 ∷ [])
long_text = (refl, refl)

first_of_them : (first_pieces 1 (codes "a" ∷ codes "b" ∷ []) ≡ codes "a" ∷ []) × (first_pieces 0 (codes "a" ∷ []) ≡ []) × (first_pieces 5 (codes "a" ∷ []) ≡ codes "a" ∷ [])
first_of_them = (refl, refl, refl)

-- Pieces of texts: each is in front of what is left, and together they are the whole.
use Rattle.std.proofs.Common.{◌≡◌, ℕ, zero, suc, ◌+◌, ◌≤◌, ◌<◌, ◌&&◌, Bool, true, false, nat_le, nat_lt, if◌then◌else◌, List, [], ◌∷◌, ◌++◌, length, take, drop, Option, Some, None, length-append, append-nil, append_assoc, refl, sym, ap, ◌∙◌, arith}
use Rattle.std.proofs.lemmas.Bool.{and_from}
use Rattle.std.proofs.lemmas.Bool.Decides.{nat_tests}
use Rattle.std.proofs.lemmas.List.{take-append-drop, length-take}
use Rattle.std.specs.List.{list_all}
use Rattle.dap_recording.specs.Pieces.{is_boundary, boundary_up_to, piece_length, first_piece, joined_text, and_then, first_pieces, pieces, PiecesAreTheOutput}

-- ---- a piece

place_by : (b : Bool) (k n : ℕ) → k < 128 → (1 ≤ n) × (n ≤ 128) → (1 ≤ (if b then suc k else n)) × ((if b then suc k else n) ≤ 128)
place_by true k n small is = (omega arith, omega (arith, small))
place_by false k n small is = is

place_bounds : (text : List ℕ) (k : ℕ) → k ≤ 128 → (1 ≤ boundary_up_to text k) × (boundary_up_to text k ≤ 128)
place_bounds text zero small = (omega arith, omega arith)
place_bounds text (suc k) small = place_by (is_boundary text (suc k)) k (boundary_up_to text k) (omega (arith, small)) (place_bounds text k (omega (arith, small)))

length_by : (b : Bool) (text : List ℕ) → nat_le (length text) 128 ≡ b → 1 ≤ length text → (1 ≤ (if b then length text else boundary_up_to text 128)) × ((if b then length text else boundary_up_to text 128) ≤ 128)
length_by true text is some = (some, grind (arith, nat_tests, is))
length_by false text is some = place_bounds text 128 (omega arith)

pub piece_bounds : (text : List ℕ) → 1 ≤ length text → (1 ≤ piece_length text) × (piece_length text ≤ 128)
piece_bounds text some = length_by (nat_le (length text) 128) text refl some

-- a piece is in front of what is left, or nothing is left
pub record Cuts (texts : List (List ℕ)) (piece : List ℕ) (rest : List (List ℕ)) : Type 0 where
  pub whole : joined_text texts ≡ piece ++ joined_text rest
  pub some : 1 ≤ length piece
  pub short : length piece ≤ 128

abbrev pub Cut : List (List ℕ) → Option (List ℕ × List (List ℕ)) → Type 0
Cut texts None = joined_text texts ≡ []
Cut texts (Some (piece, rest)) = Cuts texts piece rest

pub cut : (texts : List (List ℕ)) → Cut texts (first_piece texts)
cut [] = refl
cut ([] ∷ texts) = cut_more texts (first_piece texts) (cut texts)
  where
    cut_more : (texts : List (List ℕ)) (o : Option (List ℕ × List (List ℕ))) → Cut texts o → Cut ([] ∷ texts) o
    cut_more texts None is = is
    cut_more texts (Some (piece, rest)) is = record { whole = is.whole; some = is.some; short = is.short }
cut ((c ∷ cs) ∷ texts) =
    let text : List ℕ = c ∷ cs in
    let k = piece_length text in
    let bounds = piece_bounds text (omega arith) in
    let count = length-take k text in
    record {
      whole = ap (λ t. t ++ joined_text texts) (sym (take-append-drop k text)) ∙ append_assoc (take k text) (drop k text) (joined_text texts);
      some = omega (arith, count, bounds.0);
      short = omega (arith, count, bounds.1);
    }

-- ---- all pieces

nothing_of : (xs : List ℕ) → length xs ≤ 0 → xs ≡ []
nothing_of [] e = refl
nothing_of (x ∷ xs) e = absurd (omega (arith, e))

whole_by : (n : ℕ) (texts : List (List ℕ)) (o : Option (List ℕ × List (List ℕ))) → Cut texts o → length (joined_text texts) ≤ suc n
    → ((rest : List (List ℕ)) → length (joined_text rest) ≤ n → joined_text (first_pieces n rest) ≡ joined_text rest)
    → joined_text (and_then (first_pieces n) o) ≡ joined_text texts
whole_by n texts None is most rest = sym is
whole_by n texts (Some (piece, left)) is most rest =
    let count = ap length is.whole in
    let parts = length-append piece (joined_text left) in
    let some = is.some in
    ap (λ t. piece ++ t) (rest left (omega (arith, count, parts, some, most))) ∙ sym is.whole

whole : (n : ℕ) (texts : List (List ℕ)) → length (joined_text texts) ≤ n → joined_text (first_pieces n texts) ≡ joined_text texts
whole zero texts most = sym (nothing_of (joined_text texts) most)
whole (suc n) texts most = whole_by n texts (first_piece texts) (cut texts) most (λ rest less. whole n rest less)

abbrev is_piece : List ℕ → Bool
is_piece piece = nat_le 1 (length piece) && nat_le (length piece) 128

short_by : (n : ℕ) (texts : List (List ℕ)) (o : Option (List ℕ × List (List ℕ))) → Cut texts o → ((rest : List (List ℕ)) → list_all is_piece (first_pieces n rest) ≡ true) → list_all is_piece (and_then (first_pieces n) o) ≡ true
short_by n texts None is rest = refl
short_by n texts (Some (piece, left)) is rest =
    let some = is.some in
    let short = is.short in
    and_from (is_piece piece) (list_all is_piece (first_pieces n left)) (and_from (nat_le 1 (length piece)) (nat_le (length piece) 128) (grind (arith, nat_tests, some)) (grind (arith, nat_tests, short))) (rest left)

all_short : (n : ℕ) (texts : List (List ℕ)) → list_all is_piece (first_pieces n texts) ≡ true
all_short zero texts = refl
all_short (suc n) texts = short_by n texts (first_piece texts) (cut texts) (λ rest. all_short n rest)

pub pieces_whole : PiecesAreTheOutput
pieces_whole texts = (whole (length (joined_text texts)) texts (omega arith), all_short (length (joined_text texts)) texts)

-- ---- more pieces than there are bytes are none

abbrev Same : ℕ → ℕ → List (List ℕ) → Type 0
Same n m texts = first_pieces n texts ≡ first_pieces m texts

none_by : (m : ℕ) (texts : List (List ℕ)) (o : Option (List ℕ × List (List ℕ))) → Cut texts o → length (joined_text texts) ≤ 0 → [] ≡ and_then (first_pieces m) o
none_by m texts None is none = refl
none_by m texts (Some (piece, rest)) is none =
    let count = ap length is.whole in
    let parts = length-append piece (joined_text rest) in
    let some = is.some in
    absurd (omega (arith, count, parts, some, none))

same_by : (n m : ℕ) (texts : List (List ℕ)) (o : Option (List ℕ × List (List ℕ))) → Cut texts o → length (joined_text texts) ≤ suc n → length (joined_text texts) ≤ suc m
    → ((rest : List (List ℕ)) → length (joined_text rest) ≤ n → length (joined_text rest) ≤ m → Same n m rest) → and_then (first_pieces n) o ≡ and_then (first_pieces m) o
same_by n m texts None is few fewer rest = refl
same_by n m texts (Some (piece, left)) is few fewer rest =
    let count = ap length is.whole in
    let parts = length-append piece (joined_text left) in
    let some = is.some in
    ap (λ (later : List (List ℕ)). piece ∷ later) (rest left (omega (arith, count, parts, some, few)) (omega (arith, count, parts, some, fewer)))

enough : (n m : ℕ) (texts : List (List ℕ)) → length (joined_text texts) ≤ n → length (joined_text texts) ≤ m → Same n m texts
enough zero zero texts few fewer = refl
enough zero (suc m) texts few fewer = none_by m texts (first_piece texts) (cut texts) few
enough (suc n) zero texts few fewer = sym (none_by n texts (first_piece texts) (cut texts) fewer)
enough (suc n) (suc m) texts few fewer = same_by n m texts (first_piece texts) (cut texts) few fewer (λ rest less least. enough n m rest less least)

-- the pieces of a text that is not empty: the first, and those of what is left
pub next_piece : (text : List ℕ) → 0 < length text → pieces (text ∷ []) ≡ take (piece_length text) text ∷ pieces (drop (piece_length text) text ∷ [])
next_piece [] some = absurd (omega (arith, some))
next_piece (c ∷ cs) some =
    let text : List ℕ = c ∷ cs in
    let left : List ℕ = drop (piece_length text) text in
    let k = piece_length text in
    let is = cut (text ∷ []) in
    let count = ap length is.whole in
    let parts = length-append (take k text) (joined_text (left ∷ [])) in
    let some = is.some in
    let whole : length (joined_text (text ∷ [])) ≡ suc (length (cs ++ [])) = refl in
    ap (λ (later : List (List ℕ)). take k text ∷ later) (enough (length (cs ++ [])) (length (joined_text (left ∷ []))) (left ∷ []) (omega (arith, count, parts, some, whole)) (omega arith))

-- what is left is shorter
pub left_shorter : (text : List ℕ) → 0 < length text → length (drop (piece_length text) text) < length text
left_shorter [] some = absurd (omega (arith, some))
left_shorter (c ∷ cs) some =
    let text : List ℕ = c ∷ cs in
    let count = ap length (take-append-drop (piece_length text) text) in
    let parts = length-append (take (piece_length text) text) (drop (piece_length text) text) in
    let first = length-take (piece_length text) text in
    let bounds = piece_bounds text (omega arith) in
    omega (arith, count, parts, first, bounds.0)

-- The parts of a frame as it is written.
use Rattle.std.proofs.Common.{◌≡◌, ℕ, ◌<◌, ◌≤◌, ◌^◌, true, List, ◌∷◌, ◌++◌, Option, Some, None, length, take, drop, codes, refl, sym, ap, ◌∙◌, subst, ⊎_elim, arith}
use Rattle.std.specs.Prelude.{decimal, slice_index, MatchOption}
use Rattle.std.specs.Int.{IsInRange}
use Rattle.std.specs.List.{IsSplitAt}
use Rattle.std.specs.Str.{IsUtf8}
use Rattle.std.specs.Str.Parse.{digits_value, AllDigits}
use Rattle.std.proofs.Math.Seq.{drop-append_seam}
use Rattle.std.proofs.lemmas.Bool.{cases_lt}
use Rattle.std.proofs.lemmas.Bool.Decides.{nat_tests}
use Rattle.std.proofs.lemmas.Fmt.{digits_decimal, IsAscii-decimal}
use Rattle.std.proofs.lemmas.List.{append_assoc, get_or_append_left, get_or-append-add, length-append, take-append-le, take_all}
use Rattle.std.proofs.lemmas.Str.{IsUtf8-from_ascii}
use Rattle.std.proofs.lemmas.Str.Parse.{IsNumeralModel, numerals_by_value, tells_digits, digit_at}
use Rattle.dap_frame.specs.Written.{frame_of}
use Rattle.memchr.specs.Find.{is_byte, IsFirstByte}

own : IsNumeralModel (AllDigits 10) (digits_value 10)
own = numerals_by_value (AllDigits 10) tells_digits

pub digits_are_text : (n : ℕ) (digits : List ℕ) → n < 2 ^ 64 → digits ≡ decimal n → IsUtf8 digits
digits_are_text n digits small is = subst IsUtf8 (sym is) (IsUtf8-from_ascii (decimal n) (IsAscii-decimal n small))

module _ (n : ℕ) (rest value : List ℕ) (small : n < 2 ^ 64) (is : value ≡ decimal n ++ 13 ∷ rest) where
  before : (k : ℕ) → k < length (decimal n) → is_byte 13 (slice_index value k) ≡ true → ⊥
  before k below here =
      let digit : IsInRange 48 57 (slice_index (decimal n) k) = digit_at (decimal n) k (digits_decimal own n small) below in
      let same : slice_index value k ≡ slice_index (decimal n) k = ap (λ xs. slice_index xs k) is ∙ get_or_append_left (decimal n) (13 ∷ rest) 0 k below in
      absurd (grind (arith, nat_tests, same, digit, here))

  there : slice_index value (length (decimal n)) ≡ 13
  there = ap (λ xs. slice_index xs (length (decimal n))) is ∙ ap (λ k. slice_index (decimal n ++ 13 ∷ rest) k) (omega arith) ∙ get_or-append-add (decimal n) (13 ∷ rest) 0 0

  pub long : length (decimal n) < length value
  long = omega (arith, ap length is, length-append (decimal n) (13 ∷ rest))

  pub ends_at : (found : Option ℕ) → IsFirstByte (is_byte 13) value found → found ≡ Some (length (decimal n))
  ends_at None nowhere = absurd (nowhere (length (decimal n)) (omega arith) long (rw there refl))
  ends_at (Some k) found =
      let not_before : length (decimal n) ≤ k = ⊎_elim (λ (below : k < length (decimal n)). absurd (before k below found.1)) (λ (h : length (decimal n) ≤ k). h) (cases_lt k (length (decimal n))) in
      let not_behind : k ≤ length (decimal n) = ⊎_elim (λ (behind : length (decimal n) < k). absurd (found.0.before (length (decimal n)) (omega arith) behind (rw there refl))) (λ (h : k ≤ length (decimal n)). h) (cases_lt (length (decimal n)) k) in
      let same : k ≡ length (decimal n) = omega arith in
      ap Some same

  pub digits_there : take (length (decimal n)) value ≡ decimal n
  digits_there = ap (take (length (decimal n))) is ∙ take-append-le (length (decimal n)) (decimal n) (13 ∷ rest) (omega arith) ∙ take_all (length (decimal n)) (decimal n) (omega arith)

  pub rest_there : drop (length (decimal n)) value ≡ 13 ∷ rest
  rest_there = ap (drop (length (decimal n))) is ∙ drop-append_seam (decimal n) (13 ∷ rest)

-- what is cut in two where it has the place
pub cut_in_two : {P : Type 0} (both : Option P) (front back : P → List ℕ) (value xs ys : List ℕ) (at : ℕ) → at ≤ length value → take at value ≡ xs → drop at value ≡ ys
    → MatchOption both (length value < at) (λ p. IsSplitAt value at (front p) (back p)) → MatchOption both ⊥ (λ p. (front p ≡ xs) × (back p ≡ ys))
cut_in_two None front back value xs ys at room first second cases = absurd (omega arith)
cut_in_two (Some p) front back value xs ys at room first second cases = (cases.1 ∙ first, cases.2 ∙ second)

-- what begins with a frame
pub framed : (bytes body rest : List ℕ) → bytes ≡ frame_of body ++ rest → bytes ≡ codes "Content-Length: " ++ (decimal (length body) ++ (13 ∷ 10 ∷ 13 ∷ 10 ∷ (body ++ rest)))
framed bytes body rest is =
    let digits = decimal (length body) in
    is ∙ ap (λ (xs : List ℕ). codes "Content-Length: " ++ xs) (append_assoc (digits ++ codes "\r\n\r\n") body rest ∙ append_assoc digits (codes "\r\n\r\n") (body ++ rest))

pub body_within : (bytes body rest : List ℕ) → bytes ≡ frame_of body ++ rest → length body ≤ length bytes
body_within bytes body rest is =
    let digits = decimal (length body) in
    let behind : List ℕ = 13 ∷ 10 ∷ 13 ∷ 10 ∷ (body ++ rest) in
    omega (arith, ap length (framed bytes body rest is), length-append (codes "Content-Length: ") (digits ++ behind), length-append digits behind, length-append body rest)

pub body_there : (body rest : List ℕ) → take (length body) (body ++ rest) ≡ body
body_there body rest = take-append-le (length body) body rest (omega arith) ∙ take_all (length body) body (omega arith)

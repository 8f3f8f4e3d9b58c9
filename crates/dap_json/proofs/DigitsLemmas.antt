-- A text of digits alone is the number that they write.
use Rattle.std.proofs.Common.{◌≡◌, ℕ, ◌+◌, ◌*◌, ◌-◌, ◌^◌, ◌<◌, ◌≤◌, List, [], ◌∷◌, length, get_or, take, append-nil, ap, sym, ◌∙◌, refl, suc, false, Some, arith, slice_index, ◌==◌}
use Rattle.std.proofs.lemmas.Int.Digits.{digits_value_more}
use Rattle.std.specs.Char.{digit_value}
use Rattle.std.proofs.lemmas.Bool.Decides.{nat_tests}
use Rattle.std.specs.Str.Parse.{AllDigits, digits_value}
use Rattle.fast_float.specs.Text.{Parts, scan, IsWellFormed, minus}
use Rattle.fast_float.proofs.Writing.{scan-text_of}
use Rattle.serde_json.specs.Data.{unsigned}
use Rattle.serde_json.specs.Read.{number_of}

pub all_digits : (s : List ℕ) → ((k : ℕ) → k < length s → (48 ≤ get_or s k 0) × (get_or s k 0 ≤ 57)) → AllDigits 10 s
all_digits [] h = tt
all_digits (c ∷ s) h =
    let here = h 0 (omega arith) in
    (grind (arith, here), all_digits s (λ k below. h (suc k) (omega arith)))

digit_is : (c : ℕ) → 48 ≤ c → c ≤ 57 → digit_value c ≡ c - 48
digit_is c low high = grind arith

pub one_more_digit : (s : List ℕ) (i n : ℕ) → i < length s → n ≡ digits_value 10 (take i s) → 48 ≤ get_or s i 0 → get_or s i 0 ≤ 57 → n * 10 + (get_or s i 0 - 48) ≡ digits_value 10 (take (i + 1) s)
one_more_digit s i n below so_far low high = rw (digits_value_more 10 s i below, ← so_far, digit_is (get_or s i 0) low high) refl

abbrev digits_parts : List ℕ → Parts
digits_parts s = record { whole = s; point = false; fraction = []; exponent_negative = false; exponent = []; len = length s }

well_formed : (s : List ℕ) → AllDigits 10 s → IsWellFormed (digits_parts s)
well_formed s h = record {
  whole_digits = h;
  fraction_digits = tt;
  exponent_digits = tt;
  no_point = λ _. refl;
  no_exponent = λ _. refl;
  len_is = ap length (sym (append-nil s));
}

scan_digits : (s : List ℕ) → AllDigits 10 s → scan s ≡ digits_parts s
scan_digits s h = ap scan (sym (append-nil s)) ∙ scan-text_of (digits_parts s) (well_formed s h)

pub number_of-digits : (s : List ℕ) → AllDigits 10 s → 0 < length s → (slice_index s 0 == minus) ≡ false → digits_value 10 s < 2 ^ 64 → number_of s ≡ Some (unsigned (digits_value 10 s))
unfolding number_of
number_of-digits s h some first small = rw (first, scan_digits s h, append-nil s) (grind (arith, nat_tests))

-- What is written of a body is a frame of it.
use Rattle.std.proofs.Common.{◌≡◌, ℕ, suc, ◌-◌, ◌<◌, ◌≤◌, ◌^◌, Bool, true, false, ◌&&◌, List, [], ◌∷◌, ◌++◌, length, refl, sym, ap, ◌∙◌, arith, codes}
use Rattle.std.specs.Prelude.{decimal, nat_lt, All}
use Rattle.std.specs.List.{list_all, flat_map, prefix_len, suffix_len}
use Rattle.std.specs.Char.{is_ascii_digit}
use Rattle.std.specs.Str.Parse.{digits_value, AllDigits}
use Rattle.std.proofs.lemmas.Fmt.{digits_decimal, digits_value-decimal, decimal_nonempty, length-decimal-le}
use Rattle.std.specs.Int.{IsInRange}
use Rattle.std.proofs.lemmas.Str.Parse.{IsNumeralModel, numerals_by_value, tells_digits, digit_from_value, digit_at}
use Rattle.std.proofs.lemmas.Bool.Decides.{nat_tests}
use Rattle.std.proofs.lemmas.List.{length-append, append_assoc, append-nil, take_all}
use Rattle.std.proofs.lemmas.List.Sums.{prefix_len_is, suffix_len_is}
use Rattle.dap_frame.specs.declared.limits.Bounds.{Bounds}
use Rattle.dap_frame.specs.Header.{Field, IsField, Block, block, crlf, trim, is_blank, is_value_byte}
use Rattle.dap_frame.specs.Stream.{Frame, FramesThen, Split}
use Rattle.dap_frame.specs.Written.{frame_of}
use Rattle.dap_frame.proofs.Streams.{no_frame_nil}

own : IsNumeralModel (AllDigits 10) (digits_value 10)
own = numerals_by_value (AllDigits 10) tells_digits

and_true : (a b : Bool) → a ≡ true → b ≡ true → (a && b) ≡ true
and_true a b p q = rw (p, q) refl

digits_pass : (p : ℕ → Bool) → ((c : ℕ) → IsInRange 48 57 c → p c ≡ true) → (ds : List ℕ) → AllDigits 10 ds → list_all p ds ≡ true
digits_pass p h [] all = refl
digits_pass p h (c ∷ cs) all = and_true (p c) (list_all p cs) (h c (digit_from_value c all.0)) (digits_pass p h cs all.1)

digit_passes : (c : ℕ) → IsInRange 48 57 c → is_ascii_digit c ≡ true
digit_passes c h = grind (arith, nat_tests, h)

value_passes : (c : ℕ) → IsInRange 48 57 c → is_value_byte c ≡ true
value_passes c h = grind (arith, nat_tests, h)

not_blank : (c : ℕ) → IsInRange 48 57 c → is_blank c ≡ false
not_blank c h = grind (arith, nat_tests, h)

-- the header field of a body of n bytes
abbrev length_field : ℕ → Field
length_field n = record { name = codes "Content-Length"; value = 32 ∷ decimal n }

module _ (n : ℕ) (small : n < 2 ^ 64) where
  all : AllDigits 10 (decimal n)
  all = digits_decimal own n small

  some : 0 < length (decimal n)
  some = decimal_nonempty n small

  no_blank_before : prefix_len is_blank (decimal n) ≡ 0
  no_blank_before = prefix_len_is is_blank (decimal n) 0 0 (omega arith) (λ k l. absurd (omega arith)) (λ l. not_blank _ (digit_at (decimal n) 0 all l))

  no_blank_after : suffix_len is_blank (decimal n) ≡ 0
  no_blank_after =
      let e : suffix_len is_blank (decimal n) ≡ length (decimal n) - length (decimal n) =
      suffix_len_is is_blank (decimal n) (length (decimal n)) 0 (omega arith) (λ k l m. absurd (omega arith)) (λ l. not_blank _ (digit_at (decimal n) (length (decimal n) - 1) all (omega arith))) in
      omega (arith, e)

  trimmed_again : trim (32 ∷ decimal n) ≡ decimal n
  trimmed_again = rw (no_blank_before, no_blank_after) (take_all (length (decimal n) - 0) (decimal n) (omega arith))

  field : IsField (length_field n)
  field = record { named = omega arith; name = refl; value = rw (digits_pass is_value_byte value_passes (decimal n) all) refl }

  abbrev header : List ℕ
  header = codes "Content-Length: " ++ decimal n ++ codes "\r\n\r\n"

  spelled : header ≡ block (length_field n ∷ [])
  spelled = ap (λ z. codes "Content-Length: " ++ z) (sym (ap (λ z. z ++ crlf) (append-nil (decimal n ++ crlf)) ∙ append_assoc (decimal n) crlf crlf))

  pub length_block : Block header n
  length_block = record {
    fields = length_field n ∷ [];
    some = omega arith;
    each = (field, tt);
    spelled = spelled;
    digits = decimal n;
    one_length = ap (λ ds. ds ∷ []) trimmed_again;
    number = let begun : nat_lt 0 (length (decimal n)) ≡ true = grind (arith, nat_tests, some) in rw (begun, digits_pass is_ascii_digit digit_passes (decimal n) all) refl;
    size = sym (digits_value-decimal own n small);
  }

  pub header_short : n < 10 ^ 8 → length header ≤ 32
  header_short fits = let digits : length (decimal n) ≤ 8 = length-decimal-le 8 n (omega arith) fits small in omega (arith, digits, length-append (decimal n) (codes "\r\n\r\n"))

module _ (bounds : Bounds) (room : 32 ≤ bounds.header) (least : bounds.body ≤ 16777216) where
  pub written_frame : (x : List ℕ) → length x ≤ bounds.body → Frame bounds (frame_of x) x
  written_frame x fits = record {
    header = header (length x) (omega arith);
    spelled = refl;
    announced = length_block (length x) (omega arith);
    header_fits = let short : length (header (length x) (omega arith)) ≤ 32 = header_short (length x) (omega arith) (omega arith) in omega arith;
    body_fits = fits;
  }

  written_frames : (xs : List (List ℕ)) → All (λ x. length x ≤ bounds.body) xs → FramesThen bounds xs [] (flat_map frame_of xs)
  written_frames [] each = refl
  written_frames (x ∷ xs) each = (frame_of x, flat_map frame_of xs, refl, written_frame x (each 0 x (omega arith)), written_frames xs (λ k d l. each (suc k) d (omega arith)))

  pub written_split : (xs : List (List ℕ)) → All (λ x. length x ≤ bounds.body) xs → Split bounds (flat_map frame_of xs) xs []
  written_split xs each = record { frames = written_frames xs each; ends = no_frame_nil bounds }

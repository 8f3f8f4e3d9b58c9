-- A block with the one field Content-Length, as most peers write it.
use Rattle.std.proofs.Common.{◌≡◌, ℕ, ◌-◌, ◌<◌, ◌==◌, Bool, true, false, true≢false, List, [], ◌∷◌, ◌++◌, length, take, drop, refl, sym, ap, ◌∙◌, arith, codes, get_or}
use Rattle.std.specs.Prelude.{nat_eq}
use Rattle.std.specs.Cmp.Lexicographic.{pointwise}
use Rattle.std.specs.List.{list_all, prefix_len, suffix_len}
use Rattle.std.specs.Char.{is_ascii_digit}
use Rattle.std.proofs.lemmas.Bool.{and_parts, and_from}
use Rattle.std.proofs.lemmas.Bool.Decides.{nat_tests}
use Rattle.std.proofs.lemmas.List.{append_assoc, take_all, take-append-drop}
use Rattle.std.proofs.lemmas.List.Folds.{list_all_at}
use Rattle.std.proofs.lemmas.List.Sums.{prefix_len_is, suffix_len_is}
use Rattle.std.proofs.lemmas.Slice.Eq.{bytes_eq-Decides}
use Rattle.dap_frame.specs.PrivateGivenLength.{usual_block}
use Rattle.dap_frame.specs.Header.{crlf, is_blank, is_value_byte, trim}
use Rattle.dap_frame.specs.Verdict.{lines, length_of_block, length_of_lines, announced_length}
use Rattle.dap_frame.proofs.Blocks.{body_of}

-- a block of this form, taken apart
pub usual_spelled : (block rest digits : List ℕ) → pointwise nat_eq (take 16 block) (codes "Content-Length: ") ≡ true → rest ≡ drop 16 block → pointwise nat_eq (drop (length rest - 4) rest) (codes "\r\n\r\n") ≡ true → digits ≡ take (length rest - 4) rest → block ≡ usual_block digits
usual_spelled block rest digits front cut back value =
    let a : take 16 block ≡ codes "Content-Length: " = (bytes_eq-Decides (take 16 block) (codes "Content-Length: ")).0 front in
    let b : drop (length rest - 4) rest ≡ codes "\r\n\r\n" = (bytes_eq-Decides (drop (length rest - 4) rest) (codes "\r\n\r\n")).0 back in
    let inner : rest ≡ digits ++ codes "\r\n\r\n" = sym (take-append-drop (length rest - 4) rest) ∙ ap (λ x. take (length rest - 4) rest ++ x) b ∙ ap (λ x. x ++ codes "\r\n\r\n") (sym value) in
    sym (take-append-drop 16 block) ∙ ap (λ x. x ++ drop 16 block) a ∙ ap (λ x. codes "Content-Length: " ++ x) (sym cut ∙ inner)

-- what holds of each item holds at each place
each_at : (p : ℕ → Bool) (xs : List ℕ) → list_all p xs ≡ true → (k : ℕ) → k < length xs → p (get_or xs k 0) ≡ true
each_at p xs all k l = at (p (get_or xs k 0)) refl
  where
    at : (b : Bool) → p (get_or xs k 0) ≡ b → b ≡ true
    at true e = refl
    at false e = absurd (true≢false (sym all ∙ list_all_at p xs k 0 l e))

digit_is_value : (c : ℕ) → is_ascii_digit c ≡ true → is_value_byte c ≡ true
digit_is_value c h = grind (arith, nat_tests, h)

digit_no_blank : (c : ℕ) → is_ascii_digit c ≡ true → is_blank c ≡ false
digit_no_blank c h = grind (arith, nat_tests, h)

value_no_cr : (c : ℕ) → is_value_byte c ≡ true → (c == 13) ≡ false
value_no_cr c h = grind (arith, nat_tests, h)

digits_are_value : (xs : List ℕ) → list_all is_ascii_digit xs ≡ true → list_all is_value_byte xs ≡ true
digits_are_value [] all = refl
digits_are_value (x ∷ xs) all = let parts = and_parts (is_ascii_digit x) (list_all is_ascii_digit xs) all in and_from (is_value_byte x) (list_all is_value_byte xs) (digit_is_value x parts.0) (digits_are_value xs parts.1)

-- bytes of a value are one line
one_line : (xs : List ℕ) → list_all is_value_byte xs ≡ true → lines (xs ++ crlf) ≡ xs ∷ []
one_line [] all = refl
one_line (x ∷ []) all = rw (value_no_cr x (and_parts (is_value_byte x) true all).0) refl
one_line (x ∷ y ∷ xs) all =
    let parts = and_parts (is_value_byte x) (list_all is_value_byte (y ∷ xs)) all in
    rw (value_no_cr x parts.0, one_line (y ∷ xs) parts.1) refl

module _ (digits : List ℕ) (some : 0 < length digits) (all : list_all is_ascii_digit digits ≡ true) where
  no_blank_before : prefix_len is_blank digits ≡ 0
  no_blank_before = prefix_len_is is_blank digits 0 0 (omega arith) (λ k l. absurd (omega arith)) (λ l. digit_no_blank (get_or digits 0 0) (each_at is_ascii_digit digits all 0 l))

  no_blank_after : suffix_len is_blank digits ≡ 0
  no_blank_after =
      let e : suffix_len is_blank digits ≡ length digits - length digits =
      suffix_len_is is_blank digits (length digits) 0 (omega arith) (λ k l m. absurd (omega arith)) (λ l. digit_no_blank (get_or digits (length digits - 1) 0) (each_at is_ascii_digit digits all (length digits - 1) (omega arith))) in
      omega (arith, e)

  trimmed_again : trim (32 ∷ digits) ≡ digits
  trimmed_again = rw (no_blank_before, no_blank_after) (take_all (length digits - 0) digits (omega arith))

  value : list_all is_value_byte digits ≡ true
  value = digits_are_value digits all

  abbrev field : List ℕ
  field = codes "Content-Length: " ++ digits

  spelled : usual_block digits ≡ (field ++ crlf) ++ crlf
  spelled = ap (λ x. codes "Content-Length: " ++ x) (sym (append_assoc digits crlf crlf))

  lines_are : lines (take (length (usual_block digits) - 2) (usual_block digits)) ≡ field ∷ []
  lines_are = ap lines (body_of (usual_block digits) field spelled) ∙ one_line field value

  judged_field : (most : ℕ) → length_of_lines most (field ∷ []) ≡ announced_length most (digits ∷ [])
  judged_field most = rw (value, trimmed_again) refl

  pub usual_judged : (most : ℕ) → announced_length most (digits ∷ []) ≡ length_of_block most (usual_block digits)
  usual_judged most = sym (ap (length_of_lines most) lines_are ∙ judged_field most)

-- What a text says as a number, by the two tests of std and of clap.
use Rattle.std.proofs.Common.{ℕ, ◌≡◌, ◌^◌, ◌<◌, ◌&&◌, List, Bool, true, false, Option, Some, None, refl, sym, ap, nat_lt, ◌∙◌, arith, ◌≤◌}
use Rattle.std.specs.Prelude.{Result, Ok, Err, unwrap_or, option_and_then}
use Rattle.std.specs.Str.Parse.{digits_value, without_leading_plus, IsNumeral, ParsesUnsigned}
use Rattle.std.proofs.lemmas.Bool.{lt-ltb, ltb-true, le-leb}
use Rattle.clap.specs.ValueTests.{is_numeral}
use Rattle.clap.specs.Words.{ReadsOne}
use Rattle.clap.specs.declared.builder.value_parser.ValueParser.TheVariants as vp
use Rattle.clap.proofs.ValueTestLemmas.{accepts-Accepts, Accepts-accepts}
use Rattle.clap.proofs.WalkLemmas.{both}
use Rattle.dap_words.specs.Options.{number_of_text}

-- clap's test of a numeral says what std's says
test_of_numeral : (text : List ℕ) → IsNumeral 10 (without_leading_plus text) → digits_value 10 (without_leading_plus text) < 2 ^ 64
    → is_numeral (without_leading_plus text) ≡ true
test_of_numeral text numeral small =
    (both _ _ (Accepts-accepts false (vp.Unsigned 0 (2 ^ 64)) text (numeral, small, omega arith, omega arith))).0

pub has_number : (text : List ℕ) → IsNumeral 10 (without_leading_plus text) → digits_value 10 (without_leading_plus text) < 2 ^ 64
    → number_of_text text ≡ Some (digits_value 10 (without_leading_plus text))
has_number text numeral small = rw (test_of_numeral text numeral small, lt-ltb _ _ small) refl

numeral_of_test : (text : List ℕ) → (is_numeral (without_leading_plus text) && nat_lt (digits_value 10 (without_leading_plus text)) (2 ^ 64)) ≡ true
    → IsNumeral 10 (without_leading_plus text) × (digits_value 10 (without_leading_plus text) < 2 ^ 64)
numeral_of_test text e =
    let n = digits_value 10 (without_leading_plus text) in
    let parts = both (is_numeral (without_leading_plus text)) (nat_lt n (2 ^ 64)) e in
    let small : n < 2 ^ 64 = ltb-true _ _ parts.1 in
    let most : n ≤ 2 ^ 64 = omega (arith, small) in
    let accepted = accepts-Accepts false (vp.Unsigned 0 (2 ^ 64)) text (rw (parts.0, parts.1, le-leb 0 n (omega arith), le-leb n (2 ^ 64) most) refl) in
    (accepted.0, small)

-- what clap's `get_one` reads of a text is the number in it
number_is_read : (E : Type 0) (G : List ℕ → Result ℕ E → Type 0) (text : List ℕ) (r : Option ℕ)
    → ((r : Result ℕ E) → G text r → ParsesUnsigned 64 10 text r) → ReadsOne G text r → r ≡ number_of_text text
number_is_read E G text (Some n) parses read =
    let p = parses (Ok n) read in
    ap Some p.1 ∙ sym (has_number text p.0.0 p.0.1)
number_is_read E G text None parses read = go (is_numeral (without_leading_plus text) && nat_lt (digits_value 10 (without_leading_plus text)) (2 ^ 64)) refl
  where
    go : (b : Bool) → (is_numeral (without_leading_plus text) && nat_lt (digits_value 10 (without_leading_plus text)) (2 ^ 64)) ≡ b → None ≡ number_of_text text
    go true e = absurd (parses (Err read.0) read.1 (numeral_of_test text e))
    go false e = rw e refl

-- and what it gives of an option, else the usual number
pub number_is_given : (E : Type 0) (G : List ℕ → Result ℕ E → Type 0) → ((text : List ℕ) (r : Result ℕ E) → G text r → ParsesUnsigned 64 10 text r)
    → (found : Option (List ℕ)) (r : Option ℕ) (usual : ℕ) → (found ≡ None → r ≡ None) → ((text : List ℕ) → found ≡ Some text → ReadsOne G text r)
    → unwrap_or r usual ≡ unwrap_or (option_and_then number_of_text found) usual
number_is_given E G parses None r usual none value = ap (λ r. unwrap_or r usual) (none refl)
number_is_given E G parses (Some text) r usual none value =
    ap (λ r. unwrap_or r usual) (number_is_read E G text r (parses text) (value text refl))

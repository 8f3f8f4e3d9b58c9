-- A canonical text has no control character: those of texts are escaped, and what stands between is digits, letters and marks.
use Rattle.std.proofs.Common.{◌≡◌, ℕ, zero, suc, ◌/◌, ◌%◌, ◌==◌, ◌||◌, cond, nat_lt, Bool, true, false, ℤ, pos, negsuc, List, [], ◌∷◌, ◌++◌, decimal, refl, ◌∙◌, arith}
use Rattle.std.proofs.lemmas.Bool.{and_from}
use Rattle.std.proofs.lemmas.Bool.Decides.{nat_tests}
use Rattle.std.proofs.lemmas.List.Folds.{list_all-append}
use Rattle.std.specs.Char.{digit_char}
use Rattle.std.specs.Fmt.{digits, digits_onto, digit_glyph, signed_decimal}
use Rattle.std.specs.List.{list_all}
use Rattle.json.specs.Print.{escape_byte, escape_letter, escape, quoted}
use Rattle.serde_json.specs.Data.{Data, Num, unsigned, negative, float, null, boolean, number, string, array, object, Items, no_items, item, Members, no_members, member}
use Rattle.serde_json.specs.Written.{number_text, comma_if, compact_text, items_text, members_text}
use Rattle.dap_envelope.specs.Canon.{canon, tree_of}
use Rattle.dap_envelope.specs.OneLine.{is_printed, IsOneLine}
use Rattle.dap_envelope.specs.declared.message.Message.{Message}

abbrev AreClear : List ℕ → Type 0
AreClear xs = list_all is_printed xs ≡ true

joined : (xs ys : List ℕ) → AreClear xs → AreClear ys → AreClear (xs ++ ys)
joined xs ys a b = list_all-append is_printed xs ys ∙ and_from (list_all is_printed xs) (list_all is_printed ys) a b

first : (x : ℕ) (xs : List ℕ) → is_printed x ≡ true → AreClear xs → AreClear (x ∷ xs)
first x xs a b = and_from (is_printed x) (list_all is_printed xs) a b

-- ---- digits

glyph : (upper : Bool) (d : ℕ) → is_printed (digit_glyph upper d) ≡ true
glyph true d = grind (arith, nat_tests)
glyph false d = grind (arith, nat_tests)

char : (d : ℕ) → is_printed (digit_char d) ≡ true
char d = grind (arith, nat_tests)

chosen : (b : Bool) (xs ys : List ℕ) → AreClear xs → AreClear ys → AreClear (cond b xs ys)
chosen true xs ys a b = a
chosen false xs ys a b = b

onto : (k base : ℕ) (upper : Bool) (n : ℕ) (acc : List ℕ) → AreClear acc → AreClear (digits_onto k base upper n acc)
onto zero base upper n acc h = h
onto (suc k) base upper n acc h =
    let more = first (digit_glyph upper (n % base)) acc (glyph upper (n % base)) h in
    chosen (n / base == 0) (digit_glyph upper (n % base) ∷ acc) (digits_onto k base upper (n / base) (digit_glyph upper (n % base) ∷ acc)) more (onto k base upper (n / base) (digit_glyph upper (n % base) ∷ acc) more)

whole : (n : ℕ) → AreClear (decimal n)
unfolding digits
whole n = onto 64 10 false n [] refl

signed : (z : ℤ) → AreClear (signed_decimal z)
signed (pos n) = whole n
signed (negsuc n) = first 45 (decimal (suc n)) refl (whole (suc n))

digits_of_number : (n : Num) → AreClear (number_text n)
digits_of_number (unsigned n) = whole n
digits_of_number (negative z) = signed z
digits_of_number (float x) = refl

-- ---- texts

-- a letter that is there is printed
abbrev IsLetter : ℕ → Type 0
IsLetter y = nat_lt 0 y ≡ true → is_printed y ≡ true

letter_if : (b : Bool) (x y : ℕ) → (b ≡ true → IsLetter x) → IsLetter y → IsLetter (cond b x y)
letter_if true x y a c = a refl
letter_if false x y a c = c

own : (x : ℕ) → ((x == 34) || (x == 92)) ≡ true → IsLetter x
own x e = λ _. grind (arith, nat_tests)

letter : (x : ℕ) → IsLetter (escape_letter x)
letter x =
    letter_if ((x == 34) || (x == 92)) x _ (own x)
    (letter_if (x == 8) 98 _ (λ _. λ _. refl)
    (letter_if (x == 12) 102 _ (λ _. λ _. refl)
    (letter_if (x == 10) 110 _ (λ _. λ _. refl)
    (letter_if (x == 13) 114 _ (λ _. λ _. refl)
    (letter_if (x == 9) 116 0 (λ _. λ _. refl) (λ h. cc h))))))

byte_if : (x : ℕ) (has_letter low : Bool) → nat_lt 0 (escape_letter x) ≡ has_letter → nat_lt x 32 ≡ low
    → AreClear (cond has_letter (92 ∷ escape_letter x ∷ []) (cond low (92 ∷ 117 ∷ 48 ∷ 48 ∷ digit_char (x / 16) ∷ digit_char (x % 16) ∷ []) (x ∷ [])))
byte_if x true low e f = first 92 (escape_letter x ∷ []) refl (first (escape_letter x) [] (letter x e) refl)
byte_if x false true e f =
    let high = digit_char (x / 16) in
    let low = digit_char (x % 16) in
    first 92 (117 ∷ 48 ∷ 48 ∷ high ∷ low ∷ []) refl (first 117 (48 ∷ 48 ∷ high ∷ low ∷ []) refl (first 48 (48 ∷ high ∷ low ∷ []) refl (first 48 (high ∷ low ∷ []) refl
    (first high (low ∷ []) (char (x / 16)) (first low [] (char (x % 16)) refl)))))
byte_if x false false e f = first x [] (grind (arith, nat_tests, f)) refl

one : (x : ℕ) → AreClear (escape_byte x)
unfolding escape_byte
one x = byte_if x (nat_lt 0 (escape_letter x)) (nat_lt x 32) refl refl

escaped : (s : List ℕ) → AreClear (escape s)
escaped [] = refl
escaped (x ∷ xs) = joined (escape_byte x) (escape xs) (one x) (escaped xs)

in_quotes : (s : List ℕ) → AreClear (quoted s)
in_quotes s = first 34 (escape s ++ 34 ∷ []) refl (joined (escape s) (34 ∷ []) (escaped s) refl)

-- ---- trees

comma : (later : Bool) → AreClear (comma_if later)
comma true = refl
comma false = refl

truth : (b : Bool) → AreClear (compact_text (boolean b))
truth true = refl
truth false = refl

mutual
  text : (d : Data) → AreClear (compact_text d)
  text null = refl
  text (boolean b) = truth b
  text (number n) = digits_of_number n
  text (string s) = in_quotes s
  text (array ds) = first 91 (items_text false ds) refl (items false ds)
  text (object ms) = first 123 (members_text false ms) refl (members false ms)

  items : (later : Bool) (ds : Items) → AreClear (items_text later ds)
  items later no_items = refl
  items later (item d ds) = joined (comma_if later) (compact_text d ++ items_text true ds) (comma later) (joined (compact_text d) (items_text true ds) (text d) (items true ds))

  members : (later : Bool) (ms : Members) → AreClear (members_text later ms)
  members later no_members = refl
  members later (member k d ms) =
      joined (comma_if later) (quoted k ++ 58 ∷ (compact_text d ++ members_text true ms)) (comma later)
      (joined (quoted k) (58 ∷ (compact_text d ++ members_text true ms)) (in_quotes k)
      (first 58 (compact_text d ++ members_text true ms) refl (joined (compact_text d) (members_text true ms) (text d) (members true ms))))

pub one_line : (m : Message) → IsOneLine (canon m)
unfolding canon
one_line m = text (tree_of m)

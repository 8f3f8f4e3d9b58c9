-- How many bytes the compact text of a value has, as sums.
use Rattle.std.proofs.Common.{◌≡◌, ℕ, ◌+◌, ◌*◌, ◌/◌, ◌%◌, nat_lt, nat_le, ◌≤◌, ◌&&◌, ◌==◌, not, sym, true≢false, List, [], ◌∷◌, ◌++◌, length, Bool, true, false, cond, Ordering, Less, Equal, Greater, nat_cmp, refl, arith, length-append}
use Rattle.std.proofs.lemmas.Bool.{leb-true, and_parts}
use Rattle.std.proofs.lemmas.Bool.Decides.{nat_tests}
use Rattle.std.specs.List.{list_all}
use Rattle.std.specs.Ordering.{match_ordering}
use Rattle.dap_json.specs.Names.{is_unescaped, is_name}
use Rattle.std.specs.Cmp.Lexicographic.{slice_cmp}
use Rattle.json.specs.Token as token
use Rattle.std.specs.Char.{digit_char}
use Rattle.json.specs.Print.{escape_letter, escape_byte, escape, quoted, token_text}
use Rattle.serde_json.specs.Data.{Data, null, boolean, number, string, array, object, Items, no_items, item, Members, no_members, member, put}
use Rattle.serde_json.specs.Written.{number_text, comma_if, compact_text, items_text, members_text}

-- ---- texts and numbers

cond_le : {n : ℕ} (b : Bool) (xs ys : List ℕ) → length xs ≤ n → length ys ≤ n → length (cond b xs ys) ≤ n
cond_le true xs ys h g = h
cond_le false xs ys h g = g

escape_byte_le : (x : ℕ) → length (escape_byte x) ≤ 6
unfolding escape_byte
escape_byte_le x =
    let letter = 92 ∷ escape_letter x ∷ [] in
    let number = 92 ∷ 117 ∷ 48 ∷ 48 ∷ digit_char (x / 16) ∷ digit_char (x % 16) ∷ [] in
    let itself = x ∷ [] in
    cond_le {n = 6} (nat_lt 0 (escape_letter x)) letter (cond (nat_lt x 32) number itself) (omega arith) (cond_le {n = 6} (nat_lt x 32) number itself (omega arith) (omega arith))

escape_le : (s : List ℕ) → length (escape s) ≤ 6 * length s
escape_le [] = omega arith
escape_le (x ∷ xs) = omega (arith, length-append (escape_byte x) (escape xs), escape_byte_le x, escape_le xs)

-- JSON makes up to six bytes of one, and two are its quotes
pub quoted_le : (s : List ℕ) → length (quoted s) ≤ 6 * length s + 2
quoted_le s = omega (arith, length-append (escape s) (34 ∷ []), escape_le s)

-- a name is written as it is
unescaped_by : (c : ℕ) (quote backslash : Bool) → (c == 34) ≡ quote → (c == 92) ≡ backslash → 32 ≤ c → (not quote && not backslash) ≡ true → length (escape_byte c) ≤ 1
unfolding escape_byte
unescaped_by c true backslash q b high is = absurd (true≢false (sym is))
unescaped_by c false true q b high is = absurd (true≢false (sym is))
unescaped_by c false false q b high is =
    let e8 : (c == 8) ≡ false = grind (arith, nat_tests, high) in
    let e9 : (c == 9) ≡ false = grind (arith, nat_tests, high) in
    let e10 : (c == 10) ≡ false = grind (arith, nat_tests, high) in
    let e12 : (c == 12) ≡ false = grind (arith, nat_tests, high) in
    let e13 : (c == 13) ≡ false = grind (arith, nat_tests, high) in
    let small : nat_lt c 32 ≡ false = grind (arith, nat_tests, high) in
    rw (q, b, e8, e9, e10, e12, e13, small) (omega arith)

unescaped_le : (c : ℕ) → is_unescaped c ≡ true → length (escape_byte c) ≤ 1
unescaped_le c is =
    let both = and_parts (nat_le 32 c) (not (c == 34) && not (c == 92)) is in
    unescaped_by c (c == 34) (c == 92) refl refl (leb-true 32 c both.0) both.1

unescaped_all : (s : List ℕ) → list_all is_unescaped s ≡ true → length (escape s) ≤ length s
unescaped_all [] is = omega arith
unescaped_all (c ∷ cs) is =
    let both = and_parts (is_unescaped c) (list_all is_unescaped cs) is in
    omega (arith, length-append (escape_byte c) (escape cs), unescaped_le c both.0, unescaped_all cs both.1)

pub name_le : (s : List ℕ) → is_name s ≡ true → length (quoted s) ≤ 66
name_le s is =
    let both = and_parts (nat_le (length s) 64) (list_all is_unescaped s) is in
    omega (arith, length-append (escape s) (34 ∷ []), unescaped_all s both.1, leb-true (length s) 64 both.0)

-- ---- sums

abbrev mutual
  pub size : Data → ℕ
  size null = 4
  size (boolean b) = length (token_text (token.boolean b))
  size (number n) = length (number_text n)
  size (string s) = length (quoted s)
  size (array ds) = 1 + items_size false ds
  size (object ms) = 1 + members_size false ms

  pub items_size : Bool → Items → ℕ
  items_size later no_items = 1
  items_size later (item d ds) = length (comma_if later) + (size d + items_size true ds)

  pub members_size : Bool → Members → ℕ
  members_size later no_members = 1
  members_size later (member k d ms) = length (comma_if later) + (length (quoted k) + (1 + (size d + members_size true ms)))

mutual
  pub length-compact_text : (d : Data) → length (compact_text d) ≡ size d
  length-compact_text null = refl
  length-compact_text (boolean b) = refl
  length-compact_text (number n) = refl
  length-compact_text (string s) = refl
  length-compact_text (array ds) = omega (arith, length-items_text false ds)
  length-compact_text (object ms) = omega (arith, length-members_text false ms)

  length-items_text : (later : Bool) (ds : Items) → length (items_text later ds) ≡ items_size later ds
  length-items_text later no_items = refl
  length-items_text later (item d ds) =
      omega (arith, length-append (comma_if later) (compact_text d ++ items_text true ds), length-append (compact_text d) (items_text true ds), length-compact_text d, length-items_text true ds)

  length-members_text : (later : Bool) (ms : Members) → length (members_text later ms) ≡ members_size later ms
  length-members_text later no_members = refl
  length-members_text later (member k d ms) =
      let rest = 58 ∷ (compact_text d ++ members_text true ms) in
      let first : length (comma_if later ++ (quoted k ++ rest)) ≡ length (comma_if later) + length (quoted k ++ rest) = length-append (comma_if later) (quoted k ++ rest) in
      let second : length (quoted k ++ rest) ≡ length (quoted k) + length rest = length-append (quoted k) rest in
      let third : length (compact_text d ++ members_text true ms) ≡ length (compact_text d) + length (members_text true ms) = length-append (compact_text d) (members_text true ms) in
      let fourth = length-compact_text d in
      let fifth = length-members_text true ms in
      omega arith

-- ---- one member more

comma_le : (later : Bool) → length (comma_if later) ≤ 1
comma_le true = omega arith
comma_le false = omega arith

put_size_at : (o : Ordering) (later : Bool) (k l : List ℕ) (d e : Data) (ms : Members) → members_size true (put k d ms) ≤ members_size true ms + (length (quoted k) + size d + 2)
    → members_size later (match_ordering o (member k d (member l e ms)) (member l d ms) (member l e (put k d ms))) ≤ members_size later (member l e ms) + (length (quoted k) + size d + 2)
put_size_at Less later k l d e ms h = omega arith
put_size_at Equal later k l d e ms h = omega arith
put_size_at Greater later k l d e ms h = omega arith

-- what is put adds its key, its value, a colon and a comma at most
pub put_size : (later : Bool) (k : List ℕ) (d : Data) (ms : Members) → members_size later (put k d ms) ≤ members_size later ms + (length (quoted k) + size d + 2)
put_size later k d no_members = omega (arith, comma_le later)
put_size later k d (member l e ms) = put_size_at (slice_cmp nat_cmp k l) later k l d e ms (put_size true k d ms)

-- The content of a JSON string is UTF-8, where the text is.
use Rattle.std.proofs.Common.{◌≡◌, ℕ, zero, suc, ◌+◌, ◌*◌, ◌<◌, ◌≤◌, Bool, true, false, cond, ◌&&◌, ◌==◌, nat_lt, nat_le, List, [], ◌∷◌, ◌++◌, length, take, drop, get_or, IsUtf8, inl, inr, Option, Some, None, option_and_then, refl, sym, ap, ◌∙◌, subst, arith, append_assoc, append-nil, add-one, length-append}
use Rattle.std.proofs.lemmas.Bool.{and_parts, eqb-true, ltb-true, lt-ltb, le-leb, cases_lt}
use Rattle.std.proofs.lemmas.Bool.Decides.{nat_tests}
use Rattle.std.proofs.lemmas.Str.{IsUtf8-append, IsUtf8-encode, IsUtf8-take, IsUtf8-drop, IsCharBoundary-before_ascii, IsCharBoundary-after_ascii, encode_ascii}
use Rattle.std.specs.Char.{is_digit, digit_value, encode_utf8}
use Rattle.std.specs.Prelude.{⊤}
use lib.Utf8.{scalar, low_scalar}
use Rattle.json.specs.Text.{code_unit, short_escape, is_high_surrogate, is_low_surrogate, surrogate_pair, Within, plain, after_backslash, after_u, after_high, prepend, content}

-- ---- a text is cut at an ASCII byte

get_at : (ws xs : List ℕ) (x : ℕ) → get_or (ws ++ x ∷ xs) (length ws) 0 ≡ x
get_at [] xs x = refl
get_at (w ∷ ws) xs x = get_at ws xs x

take_at : (ws ys : List ℕ) → take (length ws) (ws ++ ys) ≡ ws
take_at [] ys = refl
take_at (w ∷ ws) ys = ap (λ l. w ∷ l) (take_at ws ys)

drop_at : (ws xs : List ℕ) (x : ℕ) → drop (suc (length ws)) (ws ++ x ∷ xs) ≡ xs
drop_at [] xs x = refl
drop_at (w ∷ ws) xs x = drop_at ws xs x

pub cut : (ws xs : List ℕ) (x : ℕ) → x < 128 → IsUtf8 (ws ++ x ∷ xs) → IsUtf8 ws × IsUtf8 xs
cut ws xs x small u =
    let bs = ws ++ x ∷ xs in
    let within : length ws < length bs = omega (arith, length-append ws (x ∷ xs)) in
    let low : get_or bs (length ws) 0 < 128 = omega (arith, get_at ws xs x) in
    let left = IsUtf8-take bs (length ws) u (IsCharBoundary-before_ascii bs (length ws) within low) in
    let right = IsUtf8-drop bs (length ws + 1) u (IsCharBoundary-after_ascii bs (length ws) u within low) in
    (subst IsUtf8 (take_at ws (x ∷ xs)) left, subst IsUtf8 (ap (λ n. drop n bs) (add-one (length ws)) ∙ drop_at ws xs x) right)

ascii : (x : ℕ) → x < 128 → IsUtf8 (x ∷ [])
ascii x small = subst IsUtf8 (encode_ascii x small) (IsUtf8-encode x (low_scalar x (omega arith)))

-- ---- what was found, behind what was gathered

abbrev pub Keeps : List ℕ → Option (List ℕ) → Type 0
Keeps ws None = ⊤
Keeps ws (Some s) = IsUtf8 (ws ++ s)

behind : (ws : List ℕ) (o : Option (List ℕ)) → IsUtf8 ws → Keeps [] o → Keeps ws o
behind ws None u k = tt
behind ws (Some s) u k = IsUtf8-append ws s u k

prepended : (e : List ℕ) (o : Option (List ℕ)) → IsUtf8 e → Keeps [] o → Keeps [] (prepend e o)
prepended e None u k = tt
prepended e (Some s) u k = IsUtf8-append e s u k

copied : (ws : List ℕ) (x : ℕ) (o : Option (List ℕ)) → Keeps (ws ++ x ∷ []) o → Keeps ws (prepend (x ∷ []) o)
copied ws x None k = tt
copied ws x (Some s) k = subst IsUtf8 (append_assoc ws (x ∷ []) s) k

-- ---- escapes

short_small : (x c : ℕ) → short_escape x ≡ Some c → (x < 128) × (c < 128)
unfolding short_escape
short_small x c e = (grind (arith, nat_tests, e), grind (arith, nat_tests, e))

digit_small : (c : ℕ) → is_digit c 16 ≡ true → (c < 128) × (digit_value c < 16)
digit_small c e = let small : digit_value c < 16 = ltb-true _ _ e in (grind (arith, nat_tests, small), small)

abbrev all_digits : ℕ → ℕ → ℕ → ℕ → Bool
all_digits a b c d = is_digit a 16 && is_digit b 16 && is_digit c 16 && is_digit d 16

record IsUnit (a b c d u : ℕ) : Type 0 where
  one : a < 128
  two : b < 128
  three : c < 128
  four : d < 128
  value : u < 65536

small_unit : (p q r s u : ℕ) → p < 16 → q < 16 → r < 16 → s < 16 → p * 4096 + q * 256 + r * 16 + s ≡ u → u < 65536
small_unit p q r s u a b c d e = omega arith

unit_from : (b : Bool) (p q r s u : ℕ) → all_digits p q r s ≡ b → cond b (Some (digit_value p * 4096 + digit_value q * 256 + digit_value r * 16 + digit_value s)) None ≡ Some u → IsUnit p q r s u
unit_from false p q r s u all e = absurd (cc e)
unit_from true p q r s u all e =
    let abc = and_parts (is_digit p 16 && is_digit q 16 && is_digit r 16) (is_digit s 16) all in
    let ab = and_parts (is_digit p 16 && is_digit q 16) (is_digit r 16) abc.0 in
    let a = and_parts (is_digit p 16) (is_digit q 16) ab.0 in
    let one = digit_small p a.0 in
    let two = digit_small q a.1 in
    let three = digit_small r ab.1 in
    let four = digit_small s abc.1 in
    let is : digit_value p * 4096 + digit_value q * 256 + digit_value r * 16 + digit_value s ≡ u = cc e in
    record { one = one.0; two = two.0; three = three.0; four = four.0; value = small_unit (digit_value p) (digit_value q) (digit_value r) (digit_value s) u one.1 two.1 three.1 four.1 is }

unit_parts : (a b c d u : ℕ) → code_unit a b c d ≡ Some u → IsUnit a b c d u
unfolding code_unit
unit_parts a b c d u e = unit_from (all_digits a b c d) a b c d u refl e

scalar_at : (b : Bool) (c : ℕ) → nat_lt c 55296 ≡ b → 57344 ≤ c → c < 1114112 → scalar c ≡ true
scalar_at true c e least most = rw e
scalar_at false c e least most = rw (e, le-leb 57344 c least, lt-ltb c 1114112 most)

above_scalar : (c : ℕ) → 57344 ≤ c → c < 1114112 → scalar c ≡ true
above_scalar c least most = scalar_at _ c refl least most

single_scalar : (u : ℕ) → u < 65536 → is_high_surrogate u ≡ false → is_low_surrogate u ≡ false → scalar u ≡ true
single_scalar u h p q =
    elim (cases_lt u 55296) [
      | inl low ↦ low_scalar u low
      | inr above ↦ grind (arith, nat_tests, p, q)
    ]

pair_scalar : (h l : ℕ) → is_high_surrogate h ≡ true → is_low_surrogate l ≡ true → scalar (surrogate_pair h l) ≡ true
pair_scalar h l p q =
    let a = and_parts (nat_le 0xd800 h) (nat_lt h 0xdc00) p in
    let b = and_parts (nat_le 0xdc00 l) (nat_lt l 0xe000) q in
    let high : h < 0xdc00 = ltb-true _ _ a.1 in
    let low : l < 0xe000 = ltb-true _ _ b.1 in
    let least : 57344 ≤ surrogate_pair h l = omega arith in
    let most : surrogate_pair h l < 1114112 = omega arith in
    above_scalar (surrogate_pair h l) least most

after_unit : (a b c d u : ℕ) (xs : List ℕ) → IsUnit a b c d u → IsUtf8 (a ∷ b ∷ c ∷ d ∷ xs) → IsUtf8 xs
after_unit a b c d u xs is t = (cut [] xs d is.four (cut [] (d ∷ xs) c is.three (cut [] (c ∷ d ∷ xs) b is.two (cut [] (b ∷ c ∷ d ∷ xs) a is.one t).1).1).1).1

-- ---- step by step

abbrev Claim : Within → List ℕ → Type 0
Claim plain xs = (ws : List ℕ) → IsUtf8 (ws ++ xs) → Keeps ws (content plain xs)
Claim after_backslash xs = IsUtf8 xs → Keeps [] (content after_backslash xs)
Claim after_u xs = IsUtf8 xs → Keeps [] (content after_u xs)
Claim (after_high h) xs = is_high_surrogate h ≡ true → IsUtf8 xs → Keeps [] (content (after_high h) xs)

plain_at : (q b c : Bool) (x : ℕ) (xs ws : List ℕ) → (x == 34) ≡ q → (x == 92) ≡ b → Claim plain xs → Claim after_backslash xs → IsUtf8 (ws ++ x ∷ xs)
    → Keeps ws (cond q (Some []) (cond b (content after_backslash xs) (cond c None (prepend (x ∷ []) (content plain xs)))))
plain_at true b c x xs ws e f later escaped u = let small : x < 128 = omega (arith, eqb-true x 34 e) in subst IsUtf8 (sym (append-nil ws)) (cut ws xs x small u).0
plain_at false true c x xs ws e f later escaped u = let small : x < 128 = omega (arith, eqb-true x 92 f) in let p = cut ws xs x small u in behind ws _ p.0 (escaped p.1)
plain_at false false true x xs ws e f later escaped u = tt
plain_at false false false x xs ws e f later escaped u = copied ws x _ (later (ws ++ x ∷ []) (subst IsUtf8 (sym (append_assoc ws (x ∷ []) xs)) u))

escape_at : (q : Bool) (o : Option ℕ) (x : ℕ) (xs : List ℕ) → (x == 117) ≡ q → short_escape x ≡ o → Claim plain xs → Claim after_u xs → IsUtf8 (x ∷ xs)
    → Keeps [] (cond q (content after_u xs) (option_and_then (λ c. prepend (c ∷ []) (content plain xs)) o))
escape_at true o x xs e f later unit u = let small : x < 128 = omega (arith, eqb-true x 117 e) in unit (cut [] xs x small u).1
escape_at false None x xs e f later unit u = tt
escape_at false (Some c) x xs e f later unit u = let p = short_small x c f in prepended (c ∷ []) _ (ascii c p.1) (later [] (cut [] xs x p.0 u).1)

single_at : (h l : Bool) (u : ℕ) (xs : List ℕ) → is_high_surrogate u ≡ h → is_low_surrogate u ≡ l → u < 65536 → Claim plain xs → Claim (after_high u) xs → IsUtf8 xs
    → Keeps [] (cond h (content (after_high u) xs) (cond l None (prepend (encode_utf8 u) (content plain xs))))
single_at true l u xs p q small later pair t = pair p t
single_at false true u xs p q small later pair t = tt
single_at false false u xs p q small later pair t = prepended (encode_utf8 u) _ (IsUtf8-encode u (single_scalar u small p q)) (later [] t)

unit_at : (o : Option ℕ) (a b c d : ℕ) (xs : List ℕ) → code_unit a b c d ≡ o → Claim plain xs → ((h : ℕ) → Claim (after_high h) xs) → IsUtf8 (a ∷ b ∷ c ∷ d ∷ xs)
    → Keeps [] (option_and_then (λ u. cond (is_high_surrogate u) (content (after_high u) xs) (cond (is_low_surrogate u) None (prepend (encode_utf8 u) (content plain xs)))) o)
unit_at None a b c d xs e later pair t = tt
unit_at (Some u) a b c d xs e later pair t = let p = unit_parts a b c d u e in single_at _ _ u xs refl refl p.value later (pair u) (after_unit a b c d u xs p t)

low_at : (l : Bool) (h u : ℕ) (xs : List ℕ) → is_high_surrogate h ≡ true → is_low_surrogate u ≡ l → Claim plain xs → IsUtf8 xs
    → Keeps [] (cond l (prepend (encode_utf8 (surrogate_pair h u)) (content plain xs)) None)
low_at true h u xs p q later t = prepended (encode_utf8 (surrogate_pair h u)) _ (IsUtf8-encode (surrogate_pair h u) (pair_scalar h u p q)) (later [] t)
low_at false h u xs p q later t = tt

second_at : (o : Option ℕ) (h a b c d : ℕ) (xs : List ℕ) → is_high_surrogate h ≡ true → code_unit a b c d ≡ o → Claim plain xs → IsUtf8 (a ∷ b ∷ c ∷ d ∷ xs)
    → Keeps [] (option_and_then (λ l. cond (is_low_surrogate l) (prepend (encode_utf8 (surrogate_pair h l)) (content plain xs)) None) o)
second_at None h a b c d xs p e later t = tt
second_at (Some l) h a b c d xs p e later t = let q = unit_parts a b c d l e in low_at _ h l xs p refl later (after_unit a b c d l xs q t)

pair_at : (y : Bool) (h s v a b c d : ℕ) (xs : List ℕ) → ((s == 92) && (v == 117)) ≡ y → is_high_surrogate h ≡ true → Claim plain xs → IsUtf8 (s ∷ v ∷ a ∷ b ∷ c ∷ d ∷ xs)
    → Keeps [] (cond y (option_and_then (λ l. cond (is_low_surrogate l) (prepend (encode_utf8 (surrogate_pair h l)) (content plain xs)) None) (code_unit a b c d)) None)
pair_at false h s v a b c d xs e p later t = tt
pair_at true h s v a b c d xs e p later t =
    let parts = and_parts (s == 92) (v == 117) e in
    let first : s < 128 = omega (arith, eqb-true s 92 parts.0) in
    let second : v < 128 = omega (arith, eqb-true v 117 parts.1) in
    second_at _ h a b c d xs p refl later (cut [] (a ∷ b ∷ c ∷ d ∷ xs) v second (cut [] (v ∷ a ∷ b ∷ c ∷ d ∷ xs) s first t).1).1

keeps : (n : ℕ) (w : Within) (xs : List ℕ) → length xs ≤ n → Claim w xs
unfolding content
keeps n plain [] h = λ ws u. tt
keeps n after_backslash [] h = λ u. tt
keeps n after_u [] h = λ u. tt
keeps n (after_high s) [] h = λ p u. tt
keeps zero w (x ∷ xs) h = absurd (omega arith)
keeps (suc n) plain (x ∷ xs) h = λ ws u. plain_at _ _ _ x xs ws refl refl (keeps n plain xs (omega arith)) (keeps n after_backslash xs (omega arith)) u
keeps (suc n) after_backslash (x ∷ xs) h = λ u. escape_at _ _ x xs refl refl (keeps n plain xs (omega arith)) (keeps n after_u xs (omega arith)) u
keeps (suc n) after_u (a ∷ []) h = λ u. tt
keeps (suc n) after_u (a ∷ b ∷ []) h = λ u. tt
keeps (suc n) after_u (a ∷ b ∷ c ∷ []) h = λ u. tt
keeps (suc n) after_u (a ∷ b ∷ c ∷ d ∷ xs) h = λ u. unit_at _ a b c d xs refl (keeps n plain xs (omega arith)) (λ s. keeps n (after_high s) xs (omega arith)) u
keeps (suc n) (after_high s) (a ∷ []) h = λ p u. tt
keeps (suc n) (after_high s) (a ∷ b ∷ []) h = λ p u. tt
keeps (suc n) (after_high s) (a ∷ b ∷ c ∷ []) h = λ p u. tt
keeps (suc n) (after_high s) (a ∷ b ∷ c ∷ d ∷ []) h = λ p u. tt
keeps (suc n) (after_high s) (a ∷ b ∷ c ∷ d ∷ e ∷ []) h = λ p u. tt
keeps (suc n) (after_high s) (a ∷ b ∷ c ∷ d ∷ e ∷ f ∷ xs) h = λ p u. pair_at _ s a b c d e f xs refl p (keeps n plain xs (omega arith)) u

pub content_utf8 : (xs : List ℕ) → IsUtf8 xs → Keeps [] (content plain xs)
content_utf8 xs u = keeps (length xs) plain xs (omega arith) [] u

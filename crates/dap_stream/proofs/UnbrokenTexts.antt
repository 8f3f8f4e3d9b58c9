-- A text in JSON has no line feed and no carriage return in it: taken whole, it is read and passed by the lexer as it is.
use Rattle.std.proofs.Common.{◌≡◌, ℕ, suc, length, get_or, ◌<◌, ◌≤◌, ◌==◌, ◌&&◌, ◌||◌, Bool, true, false, cond, List, [], ◌∷◌, ◌++◌, Option, Some, None, option_and_then, refl, sym, ap, ap₂, ◌∙◌, subst, arith, append_assoc, inl, inr, ◌⊎◌}
use Rattle.std.specs.Prelude.{not}
use Rattle.std.specs.Char.{is_digit, encode_utf8}
use Rattle.std.proofs.lemmas.Bool.{true≢false, false≢true, and_parts, cases_eq, cases_lt, cases_Bool, ne_eqb, lt-ltb, le-ltb}
use Rattle.std.proofs.lemmas.List.Elements.{filter-append}
use Rattle.json.specs.Text.{code_unit, short_escape, is_high_surrogate, is_low_surrogate, surrogate_pair, Within, plain, after_backslash, after_u, after_high, prepend, content}
use Rattle.json.specs.Word.{is_operator, is_space}
use Rattle.json.specs.Lex.{Lexeme, operator, space, other, Mode, between, in_string, in_escape, lex_byte, lex}
use Rattle.dap_stream.specs.Lines.{is_break, unbroken}

-- ---- bytes that stay

pub unbroken-append : (a b : List ℕ) → unbroken (a ++ b) ≡ unbroken a ++ unbroken b
unbroken-append a b = filter-append (λ x. not (is_break x)) a b

pub kept : (x : ℕ) (xs : List ℕ) → is_break x ≡ false → unbroken (x ∷ xs) ≡ x ∷ unbroken xs
kept x xs e = ap (λ (b : Bool). cond (not b) (x ∷ unbroken xs) (unbroken xs)) e

pub left_out : (x : ℕ) (xs : List ℕ) → is_break x ≡ true → unbroken (x ∷ xs) ≡ unbroken xs
left_out x xs e = ap (λ (b : Bool). cond (not b) (x ∷ unbroken xs) (unbroken xs)) e

pub no_break : (x : ℕ) → (x ≡ 10 → ⊥) → (x ≡ 13 → ⊥) → is_break x ≡ false
no_break x a b = ap₂ (λ (p q : Bool). p || q) (ne_eqb x 10 a) (ne_eqb x 13 b)

fails : (b : Bool) → (b ≡ true → ⊥) → b ≡ false
fails true wrong = absurd (wrong refl)
fails false wrong = refl

pub none_left_out : (xs : List ℕ) → ((k : ℕ) → 0 ≤ k → k < length xs → is_break (get_or xs k 0) ≡ true → ⊥) → unbroken xs ≡ xs
none_left_out [] h = refl
none_left_out (x ∷ xs) h = kept x xs (fails (is_break x) (h 0 (omega arith) (omega arith))) ∙ ap (λ (z : List ℕ). x ∷ z) (none_left_out xs (λ k _ below. h (suc k) (omega arith) (omega arith)))

-- ---- a text from some place in it on

pub record Text (w : Within) (m : Mode) (xs s : List ℕ) : Type 0 where
  pub body : List ℕ
  pub after : List ℕ
  pub split : xs ≡ body ++ 34 ∷ after
  pub clear : unbroken body ≡ body
  pub read : (r : List ℕ) → content w (body ++ 34 ∷ r) ≡ Some s
  pub lexed : (r : List ℕ) → lex m (body ++ 34 ∷ r) ≡ lex between r

abbrev Each : Within → Mode → List ℕ → Type 0
Each w m xs = (s : List ℕ) → content w xs ≡ Some s → Text w m xs s

more_bytes : (w w' : Within) (m m' : Mode) (q xs p s : List ℕ) → unbroken q ≡ q → ((r : List ℕ) → content w (q ++ r) ≡ prepend p (content w' r)) → ((r : List ℕ) → lex m (q ++ r) ≡ lex m' r) → Text w' m' xs s
    → Text w m (q ++ xs) (p ++ s)
more_bytes w w' m m' q xs p s clear reads lexes t = record {
  body = q ++ t.body;
  after = t.after;
  split = ap (λ z. q ++ z) t.split ∙ sym (append_assoc q t.body (34 ∷ t.after));
  clear = unbroken-append q t.body ∙ ap₂ (λ (a b : List ℕ). a ++ b) clear t.clear;
  read = λ r. ap (content w) (append_assoc q t.body (34 ∷ r)) ∙ reads (t.body ++ 34 ∷ r) ∙ ap (prepend p) (t.read r);
  lexed = λ r. ap (lex m) (append_assoc q t.body (34 ∷ r)) ∙ lexes (t.body ++ 34 ∷ r) ∙ t.lexed r;
}

record Unprepended (p s : List ℕ) (o : Option (List ℕ)) : Type 0 where
  pub rest : List ℕ
  pub found : o ≡ Some rest
  pub joined : p ++ rest ≡ s

unprepend : (p s : List ℕ) (o : Option (List ℕ)) → prepend p o ≡ Some s → Unprepended p s o
unprepend p s None h = absurd (cc h)
unprepend p s (Some rest) h = record { rest = rest; found = refl; joined = cc h }

same_bytes : (o : Option (List ℕ)) → o ≡ prepend [] o
same_bytes None = refl
same_bytes (Some s) = refl

-- ---- the lexer in a text

stays : (o s : Bool) (x : ℕ) (r : List ℕ) (k : Mode → List Lexeme) → lex_byte in_string (cond o operator (cond s space other)) x r k ≡ k in_string
stays true s x r k = refl
stays false true x r k = refl
stays false false x r k = refl

inside : (x : ℕ) (r : List ℕ) → (x == 34) ≡ false → (x == 92) ≡ false → lex in_string (x ∷ r) ≡ lex in_string r
unfolding lex
inside x r q b = rw (q, b) (stays (is_operator x) (is_space x) x r (λ m. lex m r))

-- ---- hexadecimal digits

record IsHex (x : ℕ) : Type 0 where
  pub no_break : is_break x ≡ false
  pub no_quote : (x == 34) ≡ false
  pub no_backslash : (x == 92) ≡ false

not_hex : (x y : ℕ) → is_digit x 16 ≡ true → is_digit y 16 ≡ false → x ≡ y → ⊥
not_hex x y h none e = true≢false (sym h ∙ ap (λ z. is_digit z 16) e ∙ none)

hex : (x : ℕ) → is_digit x 16 ≡ true → IsHex x
hex x h = record {
  no_break = no_break x (not_hex x 10 h refl) (not_hex x 13 h refl);
  no_quote = ne_eqb x 34 (not_hex x 34 h refl);
  no_backslash = ne_eqb x 92 (not_hex x 92 h refl);
}

record AreHex (a b c d : ℕ) : Type 0 where
  pub first : IsHex a
  pub second : IsHex b
  pub third : IsHex c
  pub fourth : IsHex d

found_if : (b : Bool) (n u : ℕ) → cond b (Some n) None ≡ Some u → b ≡ true
found_if true n u h = refl
found_if false n u h = absurd (cc h)

hex_digits : (a b c d u : ℕ) → code_unit a b c d ≡ Some u → AreHex a b c d
unfolding code_unit
hex_digits a b c d u h =
    let all = and_parts _ _ (found_if (is_digit a 16 && is_digit b 16 && is_digit c 16 && is_digit d 16) _ u h) in
    let three = and_parts _ _ all.0 in
    let two = and_parts _ _ three.0 in
    record { first = hex a two.0; second = hex b two.1; third = hex c three.1; fourth = hex d all.1 }

four_stay : (a b c d : ℕ) → AreHex a b c d → unbroken (a ∷ b ∷ c ∷ d ∷ []) ≡ a ∷ b ∷ c ∷ d ∷ []
four_stay a b c d h =
    kept a (b ∷ c ∷ d ∷ []) h.first.no_break ∙ ap (λ (z : List ℕ). a ∷ z) (kept b (c ∷ d ∷ []) h.second.no_break
    ∙ ap (λ (z : List ℕ). b ∷ z) (kept c (d ∷ []) h.third.no_break ∙ ap (λ (z : List ℕ). c ∷ z) (kept d [] h.fourth.no_break)))

four_inside : (a b c d : ℕ) → AreHex a b c d → (r : List ℕ) → lex in_string (a ∷ b ∷ c ∷ d ∷ r) ≡ lex in_string r
four_inside a b c d h r =
    inside a (b ∷ c ∷ d ∷ r) h.first.no_quote h.first.no_backslash ∙ inside b (c ∷ d ∷ r) h.second.no_quote h.second.no_backslash
    ∙ inside c (d ∷ r) h.third.no_quote h.third.no_backslash ∙ inside d r h.fourth.no_quote h.fourth.no_backslash

-- ---- the steps

at_quote : (xs s : List ℕ) → content plain (34 ∷ xs) ≡ Some s → Text plain in_string (34 ∷ xs) s
unfolding content lex
at_quote xs s h = record { body = []; after = xs; split = refl; clear = refl; read = λ r. h; lexed = λ r. refl }

at_backslash : (xs s : List ℕ) → Each after_backslash in_escape xs → content plain (92 ∷ xs) ≡ Some s → Text plain in_string (92 ∷ xs) s
unfolding content lex
at_backslash xs s each h = more_bytes plain after_backslash in_string in_escape (92 ∷ []) xs [] s refl (λ r. same_bytes (content after_backslash r)) (λ r. refl) (each s h)

plain_read : (x : ℕ) → (x ≡ 34 → ⊥) → (x ≡ 92 → ⊥) → 32 ≤ x → (r : List ℕ) → content plain (x ∷ r) ≡ prepend (x ∷ []) (content plain r)
unfolding content
plain_read x q b l r = rw (ne_eqb x 34 q, ne_eqb x 92 b, le-ltb x 32 l)

at_plain : (x : ℕ) (xs s : List ℕ) → (x ≡ 34 → ⊥) → (x ≡ 92 → ⊥) → 32 ≤ x → Each plain in_string xs → content plain (x ∷ xs) ≡ Some s → Text plain in_string (x ∷ xs) s
at_plain x xs s q b l each h =
    let u = unprepend (x ∷ []) s (content plain xs) (sym (plain_read x q b l xs) ∙ h) in
    subst (Text plain in_string (x ∷ xs)) u.joined
    (more_bytes plain plain in_string in_string (x ∷ []) xs (x ∷ []) u.rest (kept x [] (no_break x (λ e. absurd (omega arith)) (λ e. absurd (omega arith)))) (plain_read x q b l)
    (λ r. inside x r (ne_eqb x 34 q) (ne_eqb x 92 b)) (each u.rest u.found))

at_control : (x : ℕ) (xs s : List ℕ) → (x ≡ 34 → ⊥) → (x ≡ 92 → ⊥) → x < 32 → content plain (x ∷ xs) ≡ Some s → ⊥
unfolding content
at_control x xs s q b c h = let none : content plain (x ∷ xs) ≡ None = rw (ne_eqb x 34 q, ne_eqb x 92 b, lt-ltb x 32 c) in absurd (cc (none, h))

plain_step : (x : ℕ) (xs : List ℕ) → Each after_backslash in_escape xs → Each plain in_string xs → Each plain in_string (x ∷ xs)
plain_step x xs escaped each s h = go (cases_eq x 34) (cases_eq x 92) (cases_lt x 32)
  where
    go : (x ≡ 34) ⊎ (x ≡ 34 → ⊥) → (x ≡ 92) ⊎ (x ≡ 92 → ⊥) → (x < 32) ⊎ (32 ≤ x) → Text plain in_string (x ∷ xs) s
    go (inl e) b c = subst (λ z. Text plain in_string (z ∷ xs) s) (sym e) (at_quote xs s (subst (λ z. content plain (z ∷ xs) ≡ Some s) e h))
    go (inr q) (inl e) c = subst (λ z. Text plain in_string (z ∷ xs) s) (sym e) (at_backslash xs s escaped (subst (λ z. content plain (z ∷ xs) ≡ Some s) e h))
    go (inr q) (inr b) (inl c) = absurd (at_control x xs s q b c h)
    go (inr q) (inr b) (inr l) = at_plain x xs s q b l each h

no_escape : (x y c : ℕ) → short_escape x ≡ Some c → short_escape y ≡ None → x ≡ y → ⊥
no_escape x y c h none e = absurd (cc (sym h ∙ ap short_escape e ∙ none))

escape_stays : (x c : ℕ) → short_escape x ≡ Some c → is_break x ≡ false
unfolding short_escape
escape_stays x c h = no_break x (no_escape x 10 c h refl) (no_escape x 13 c h refl)

at_u : (xs s : List ℕ) → Each after_u in_string xs → content after_backslash (117 ∷ xs) ≡ Some s → Text after_backslash in_escape (117 ∷ xs) s
unfolding content lex
at_u xs s each h = more_bytes after_backslash after_u in_escape in_string (117 ∷ []) xs [] s refl (λ r. same_bytes (content after_u r)) (λ r. refl) (each s h)

escape_read : (x : ℕ) → (x ≡ 117 → ⊥) → (o : Option ℕ) → short_escape x ≡ o → (r : List ℕ) → content after_backslash (x ∷ r) ≡ option_and_then (λ c. prepend (c ∷ []) (content plain r)) o
unfolding content
escape_read x u o e r = rw (ne_eqb x 117 u, e)

escaped_lexed : (x : ℕ) (r : List ℕ) → lex in_escape (x ∷ r) ≡ lex in_string r
unfolding lex
escaped_lexed x r = refl

at_escape : (x : ℕ) (xs s : List ℕ) → (x ≡ 117 → ⊥) → Each plain in_string xs → content after_backslash (x ∷ xs) ≡ Some s → (o : Option ℕ) → short_escape x ≡ o → Text after_backslash in_escape (x ∷ xs) s
at_escape x xs s unlike each h None e = absurd (cc (sym (escape_read x unlike None e xs) ∙ h))
at_escape x xs s unlike each h (Some c) e =
    let u = unprepend (c ∷ []) s (content plain xs) (sym (escape_read x unlike (Some c) e xs) ∙ h) in
    subst (Text after_backslash in_escape (x ∷ xs)) u.joined
    (more_bytes after_backslash plain in_escape in_string (x ∷ []) xs (c ∷ []) u.rest (kept x [] (escape_stays x c e)) (escape_read x unlike (Some c) e) (escaped_lexed x) (each u.rest u.found))

backslash_step : (x : ℕ) (xs : List ℕ) → Each after_u in_string xs → Each plain in_string xs → Each after_backslash in_escape (x ∷ xs)
backslash_step x xs units each s h = go (cases_eq x 117)
  where
    go : (x ≡ 117) ⊎ (x ≡ 117 → ⊥) → Text after_backslash in_escape (x ∷ xs) s
    go (inl e) = subst (λ z. Text after_backslash in_escape (z ∷ xs) s) (sym e) (at_u xs s units (subst (λ z. content after_backslash (z ∷ xs) ≡ Some s) e h))
    go (inr unlike) = at_escape x xs s unlike each h (short_escape x) refl

-- ---- code units

abbrev unit_read : Option ℕ → List ℕ → Option (List ℕ)
unit_read o xs = option_and_then (λ u. cond (is_high_surrogate u) (content (after_high u) xs) (cond (is_low_surrogate u) None (prepend (encode_utf8 u) (content plain xs)))) o

u_read : (a b c d : ℕ) (o : Option ℕ) → code_unit a b c d ≡ o → (r : List ℕ) → content after_u (a ∷ b ∷ c ∷ d ∷ r) ≡ unit_read o r
unfolding content
u_read a b c d o e r = rw e

chosen : (b : Bool) (x y : Option (List ℕ)) → b ≡ true → cond b x y ≡ x
chosen true x y e = refl
chosen false x y e = absurd (false≢true e)

passed : (b : Bool) (x y : Option (List ℕ)) → b ≡ false → cond b x y ≡ y
passed true x y e = absurd (true≢false e)
passed false x y e = refl

module _ (a b c d u : ℕ) (xs s : List ℕ) (code : code_unit a b c d ≡ Some u) (h : content after_u (a ∷ b ∷ c ∷ d ∷ xs) ≡ Some s) where
  digits_are : AreHex a b c d
  digits_are = hex_digits a b c d u code

  at_high : is_high_surrogate u ≡ true → Each (after_high u) in_string xs → Text after_u in_string (a ∷ b ∷ c ∷ d ∷ xs) s
  at_high e each =
      let reads : (r : List ℕ) → content after_u (a ∷ b ∷ c ∷ d ∷ r) ≡ content (after_high u) r = λ r. u_read a b c d (Some u) code r ∙ chosen (is_high_surrogate u) _ _ e in
      more_bytes after_u (after_high u) in_string in_string (a ∷ b ∷ c ∷ d ∷ []) xs [] s (four_stay a b c d digits_are) (λ r. reads r ∙ same_bytes (content (after_high u) r)) (four_inside a b c d digits_are) (each s (sym (reads xs) ∙ h))

  at_low : is_high_surrogate u ≡ false → is_low_surrogate u ≡ true → ⊥
  at_low e l = absurd (cc (sym (u_read a b c d (Some u) code xs ∙ passed (is_high_surrogate u) _ _ e ∙ chosen (is_low_surrogate u) None _ l) ∙ h))

  at_unit : is_high_surrogate u ≡ false → is_low_surrogate u ≡ false → Each plain in_string xs → Text after_u in_string (a ∷ b ∷ c ∷ d ∷ xs) s
  at_unit e l each =
      let reads : (r : List ℕ) → content after_u (a ∷ b ∷ c ∷ d ∷ r) ≡ prepend (encode_utf8 u) (content plain r) = λ r. u_read a b c d (Some u) code r ∙ passed (is_high_surrogate u) _ _ e ∙ passed (is_low_surrogate u) None _ l in
      let t = unprepend (encode_utf8 u) s (content plain xs) (sym (reads xs) ∙ h) in
      subst (Text after_u in_string (a ∷ b ∷ c ∷ d ∷ xs)) t.joined
      (more_bytes after_u plain in_string in_string (a ∷ b ∷ c ∷ d ∷ []) xs (encode_utf8 u) t.rest (four_stay a b c d digits_are) reads (four_inside a b c d digits_are) (each t.rest t.found))

u_found : (a b c d : ℕ) (xs s : List ℕ) → Each plain in_string xs → ((u : ℕ) → Each (after_high u) in_string xs) → content after_u (a ∷ b ∷ c ∷ d ∷ xs) ≡ Some s → (o : Option ℕ) → code_unit a b c d ≡ o → Text after_u in_string (a ∷ b ∷ c ∷ d ∷ xs) s
u_found a b c d xs s each high h None e = absurd (cc (sym (u_read a b c d None e xs) ∙ h))
u_found a b c d xs s each high h (Some u) e = go (cases_Bool (is_high_surrogate u)) (cases_Bool (is_low_surrogate u))
  where
    go : (is_high_surrogate u ≡ true) ⊎ (is_high_surrogate u ≡ false) → (is_low_surrogate u ≡ true) ⊎ (is_low_surrogate u ≡ false) → Text after_u in_string (a ∷ b ∷ c ∷ d ∷ xs) s
    go (inl y) l = at_high a b c d u xs s e h y (high u)
    go (inr n) (inl l) = absurd (at_low a b c d u xs s e h n l)
    go (inr n) (inr l) = at_unit a b c d u xs s e h n l each

u_step : (a b c d : ℕ) (xs : List ℕ) → Each plain in_string xs → ((u : ℕ) → Each (after_high u) in_string xs) → Each after_u in_string (a ∷ b ∷ c ∷ d ∷ xs)
u_step a b c d xs each high s h = u_found a b c d xs s each high h (code_unit a b c d) refl

-- ---- the second of two

abbrev pair_read : ℕ → Option ℕ → List ℕ → Option (List ℕ)
pair_read h o xs = option_and_then (λ l. cond (is_low_surrogate l) (prepend (encode_utf8 (surrogate_pair h l)) (content plain xs)) None) o

high_read : (h a b c d : ℕ) (o : Option ℕ) → code_unit a b c d ≡ o → (r : List ℕ) → content (after_high h) (92 ∷ 117 ∷ a ∷ b ∷ c ∷ d ∷ r) ≡ pair_read h o r
unfolding content
high_read h a b c d o e r = rw e

pair_lexed : (a b c d : ℕ) → AreHex a b c d → (r : List ℕ) → lex in_string (92 ∷ 117 ∷ a ∷ b ∷ c ∷ d ∷ r) ≡ lex in_string r
unfolding lex
pair_lexed a b c d h r = four_inside a b c d h r

pair_stays : (a b c d : ℕ) → AreHex a b c d → unbroken (92 ∷ 117 ∷ a ∷ b ∷ c ∷ d ∷ []) ≡ 92 ∷ 117 ∷ a ∷ b ∷ c ∷ d ∷ []
pair_stays a b c d h = ap (λ (z : List ℕ). 92 ∷ 117 ∷ z) (four_stay a b c d h)

pair_found : (h a b c d : ℕ) (xs s : List ℕ) → Each plain in_string xs → content (after_high h) (92 ∷ 117 ∷ a ∷ b ∷ c ∷ d ∷ xs) ≡ Some s → (o : Option ℕ) → code_unit a b c d ≡ o
    → Text (after_high h) in_string (92 ∷ 117 ∷ a ∷ b ∷ c ∷ d ∷ xs) s
pair_found h a b c d xs s each found None e = absurd (cc (sym (high_read h a b c d None e xs) ∙ found))
pair_found h a b c d xs s each found (Some l) e = go (cases_Bool (is_low_surrogate l))
  where
    go : (is_low_surrogate l ≡ true) ⊎ (is_low_surrogate l ≡ false) → Text (after_high h) in_string (92 ∷ 117 ∷ a ∷ b ∷ c ∷ d ∷ xs) s
    go (inr n) = absurd (cc (sym (high_read h a b c d (Some l) e xs ∙ passed (is_low_surrogate l) _ None n) ∙ found))
    go (inl y) =
        let reads : (r : List ℕ) → content (after_high h) (92 ∷ 117 ∷ a ∷ b ∷ c ∷ d ∷ r) ≡ prepend (encode_utf8 (surrogate_pair h l)) (content plain r) = λ r. high_read h a b c d (Some l) e r ∙ chosen (is_low_surrogate l) _ None y in
        let digits_are = hex_digits a b c d l e in
        let t = unprepend (encode_utf8 (surrogate_pair h l)) s (content plain xs) (sym (reads xs) ∙ found) in
        subst (Text (after_high h) in_string (92 ∷ 117 ∷ a ∷ b ∷ c ∷ d ∷ xs)) t.joined
        (more_bytes (after_high h) plain in_string in_string (92 ∷ 117 ∷ a ∷ b ∷ c ∷ d ∷ []) xs (encode_utf8 (surrogate_pair h l)) t.rest (pair_stays a b c d digits_are) reads (pair_lexed a b c d digits_are) (each t.rest t.found))

no_pair : (h x y a b c d : ℕ) (xs s : List ℕ) → ((x == 92) && (y == 117)) ≡ false → content (after_high h) (x ∷ y ∷ a ∷ b ∷ c ∷ d ∷ xs) ≡ Some s → ⊥
unfolding content
no_pair h x y a b c d xs s e found = let none : content (after_high h) (x ∷ y ∷ a ∷ b ∷ c ∷ d ∷ xs) ≡ None = rw e in absurd (cc (none, found))

high_step : (h x y a b c d : ℕ) (xs : List ℕ) → Each plain in_string xs → Each (after_high h) in_string (x ∷ y ∷ a ∷ b ∷ c ∷ d ∷ xs)
high_step h x y a b c d xs each s found = go (cases_eq x 92) (cases_eq y 117)
  where
    go : (x ≡ 92) ⊎ (x ≡ 92 → ⊥) → (y ≡ 117) ⊎ (y ≡ 117 → ⊥) → Text (after_high h) in_string (x ∷ y ∷ a ∷ b ∷ c ∷ d ∷ xs) s
    go (inr n) o = absurd (no_pair h x y a b c d xs s (ap (λ (p : Bool). p && (y == 117)) (ne_eqb x 92 n)) found)
    go (inl e) (inr n) = absurd (no_pair h x y a b c d xs s (ap₂ (λ (p q : Bool). p && q) (ap (λ z. z == 92) e) (ne_eqb y 117 n)) found)
    go (inl e) (inl f) =
        subst (λ z. Text (after_high h) in_string (z ∷ y ∷ a ∷ b ∷ c ∷ d ∷ xs) s) (sym e) (subst (λ z. Text (after_high h) in_string (92 ∷ z ∷ a ∷ b ∷ c ∷ d ∷ xs) s) (sym f)
        (pair_found h a b c d xs s each (subst (λ z. content (after_high h) (92 ∷ z ∷ a ∷ b ∷ c ∷ d ∷ xs) ≡ Some s) f (subst (λ z. content (after_high h) (z ∷ y ∷ a ∷ b ∷ c ∷ d ∷ xs) ≡ Some s) e found)) (code_unit a b c d) refl))

-- ---- each text

abbrev mode_in : Within → Mode
mode_in plain = in_string
mode_in after_backslash = in_escape
mode_in after_u = in_string
mode_in (after_high h) = in_string

text : (w : Within) (xs : List ℕ) → Each w (mode_in w) xs
unfolding content
text plain [] s h = absurd (cc h)
text plain (x ∷ xs) s h = plain_step x xs (text after_backslash xs) (text plain xs) s h
text after_backslash [] s h = absurd (cc h)
text after_backslash (x ∷ xs) s h = backslash_step x xs (text after_u xs) (text plain xs) s h
text after_u [] s h = absurd (cc h)
text after_u (a ∷ []) s h = absurd (cc h)
text after_u (a ∷ b ∷ []) s h = absurd (cc h)
text after_u (a ∷ b ∷ c ∷ []) s h = absurd (cc h)
text after_u (a ∷ b ∷ c ∷ d ∷ xs) s h = u_step a b c d xs (text plain xs) (λ u. text (after_high u) xs) s h
text (after_high n) [] s h = absurd (cc h)
text (after_high n) (x ∷ []) s h = absurd (cc h)
text (after_high n) (x ∷ y ∷ []) s h = absurd (cc h)
text (after_high n) (x ∷ y ∷ a ∷ []) s h = absurd (cc h)
text (after_high n) (x ∷ y ∷ a ∷ b ∷ []) s h = absurd (cc h)
text (after_high n) (x ∷ y ∷ a ∷ b ∷ c ∷ []) s h = absurd (cc h)
text (after_high n) (x ∷ y ∷ a ∷ b ∷ c ∷ d ∷ xs) s h = high_step n x y a b c d xs (text plain xs) s h

abbrev pub PlainText : List ℕ → List ℕ → Type 0
PlainText xs s = Text plain in_string xs s

pub plain_text : (xs s : List ℕ) → content plain xs ≡ Some s → PlainText xs s
plain_text xs s h = text plain xs s h

-- A number, `true`, `false` and `null` have no line feed and no carriage return in them: what follows a word may change, as long as it ends the word.
use Rattle.std.proofs.Common.{◌≡◌, ℕ, suc, ◌+◌, ◌-◌, ◌==◌, ◌||◌, Bool, true, false, cond, List, [], ◌∷◌, ◌++◌, length, take, drop, Option, Some, None, option_and_then, refl, sym, ap, ap₂, ◌∙◌, subst, arith, append_assoc, inl, inr, ◌⊎◌}
use Rattle.std.specs.List.{prefix_len}
use Rattle.std.specs.Char.{is_ascii_digit}
use Rattle.std.proofs.lemmas.Bool.{true≢false, false≢true, and_parts, or_cases, eqb-true}
use Rattle.std.proofs.lemmas.List.{length-append, take-append-drop, take_at}
use Rattle.std.proofs.lemmas.Slice.Eq.{bytes_eq-Decides}
use Rattle.json.specs.Token.{Token, number, boolean, null, bad}
use Rattle.json.specs.Word.{head, ends_word, after_digits, after_minus, after_sign, after_whole, after_fraction, after_exponent, after_number, number_before, literal, word}
use Rattle.json.specs.Lex.{Lexeme, token, between, lex}
use Rattle.json.specs.Align.{is_good}
use Rattle.json.specs.Print.{IsNumber}
use Rattle.json.proofs.Printed.Numbers.{number_alone, lex-number, in_word-ended}
use Rattle.dap_stream.specs.Lines.{is_break, unbroken}
use Rattle.dap_stream.proofs.UnbrokenTexts.{unbroken-append, kept, no_break}

-- ---- what a part of a number takes

-- of t something that stays was taken, and r is left
record Took (t r : List ℕ) : Type 0 where
  pub front : List ℕ
  pub split : t ≡ front ++ r
  pub clear : unbroken front ≡ front

abbrev Takes : List ℕ → Option (List ℕ) → Type 0
Takes t None = Unit {0}
Takes t (Some r) = Took t r

nothing : (t : List ℕ) → Took t t
nothing t = record { front = []; split = refl; clear = refl }

then_took : (t u r : List ℕ) → Took t u → Took u r → Took t r
then_took t u r a b = record {
  front = a.front ++ b.front;
  split = a.split ∙ ap (λ z. a.front ++ z) b.split ∙ sym (append_assoc a.front b.front r);
  clear = unbroken-append a.front b.front ∙ ap₂ (λ (x y : List ℕ). x ++ y) a.clear b.clear;
}

then_takes : (t u : List ℕ) (o : Option (List ℕ)) → Took t u → Takes u o → Takes t o
then_takes t u None a b = tt
then_takes t u (Some r) a b = then_took t u r a b

-- one byte, which is no blank
one : (c : ℕ) (t : List ℕ) → (32 == c) ≡ false → is_break c ≡ false → (head t == c) ≡ true → Took t (drop 1 t)
one c [] unlike clear e = absurd (true≢false (sym e ∙ unlike))
one c (x ∷ xs) unlike clear e = record { front = x ∷ []; split = refl; clear = kept x [] (ap is_break (eqb-true x c e) ∙ clear) }

not_digit : (x y : ℕ) → is_ascii_digit x ≡ true → is_ascii_digit y ≡ false → x ≡ y → ⊥
not_digit x y h none e = true≢false (sym h ∙ ap is_ascii_digit e ∙ none)

digits_at : (d : Bool) (x : ℕ) (xs : List ℕ) (n : ℕ) → (d ≡ true → is_break x ≡ false) → Took xs (drop n xs) → Took (x ∷ xs) (drop (cond d (1 + n) 0) (x ∷ xs))
digits_at false x xs n clear a = nothing (x ∷ xs)
digits_at true x xs n clear a =
    let e : suc n ≡ 1 + n = omega arith in
    subst (λ k. Took (x ∷ xs) (drop k (x ∷ xs))) e
    (record { front = x ∷ a.front; split = ap (λ (z : List ℕ). x ∷ z) a.split; clear = kept x a.front (clear refl) ∙ ap (λ (z : List ℕ). x ∷ z) a.clear })

digit_run : (t : List ℕ) → Took t (drop (prefix_len is_ascii_digit t) t)
digit_run [] = nothing []
digit_run (x ∷ xs) = digits_at (is_ascii_digit x) x xs (prefix_len is_ascii_digit xs) (λ d. no_break x (not_digit x 10 d refl) (not_digit x 13 d refl)) (digit_run xs)

either : (t : List ℕ) (b : Bool) (x y : Option (List ℕ)) → (b ≡ true → Takes t x) → Takes t y → Takes t (cond b x y)
either t true x y p q = p refl
either t false x y p q = q

optional : (t : List ℕ) (b : Bool) → (b ≡ true → Took t (drop 1 t)) → Took t (cond b (drop 1 t) t)
optional t true p = p refl
optional t false p = nothing t

one_of : (a b : ℕ) (t : List ℕ) → (32 == a) ≡ false → is_break a ≡ false → (32 == b) ≡ false → is_break b ≡ false → ((head t == a) ≡ true) ⊎ ((head t == b) ≡ true) → Took t (drop 1 t)
one_of a b t p q r s (inl e) = one a t p q e
one_of a b t p q r s (inr e) = one b t r s e

digits : (t : List ℕ) → Takes t (after_digits t)
digits t = either t (prefix_len is_ascii_digit t == 0) None _ (λ e. tt) (digit_run t)

whole : (t : List ℕ) → Takes t (after_whole t)
whole t = either t (head t == 48) (Some (drop 1 t)) _ (one 48 t refl refl) (digits t)

fraction : (t : List ℕ) → Takes t (after_fraction t)
fraction t = either t (head t == 46) _ (Some t) (λ e. then_takes t (drop 1 t) _ (one 46 t refl refl e) (digits (drop 1 t))) (nothing t)

exponent : (t : List ℕ) → Takes t (after_exponent t)
exponent t =
    let u = drop 1 t in
    either t ((head t == 101) || (head t == 69)) _ (Some t)
    (λ e. then_takes t u _ (one_of 101 69 t refl refl refl refl (or_cases _ _ e)) (then_takes u (after_sign u) _ (optional u _ (λ s. one_of 45 43 u refl refl refl refl (or_cases _ _ s))) (digits (after_sign u)))) (nothing t)

then : (t : List ℕ) (f : List ℕ → Option (List ℕ)) → ((u : List ℕ) → Takes u (f u)) → (o : Option (List ℕ)) → Takes t o → Takes t (option_and_then f o)
then t f g None a = tt
then t f g (Some u) a = then_takes t u (f u) a (g u)

whole_number : (t : List ℕ) → Takes t (after_number t)
unfolding after_number
whole_number t =
    then t after_exponent exponent _ (then t after_fraction fraction _ (then_takes t (after_minus t) _ (optional t (head t == 45) (one 45 t refl refl)) (whole (after_minus t))))

-- ---- words

-- t begins with the word k, which stays; whatever ends a word may come behind it
pub record BeginsWith (k : Token) (t : List ℕ) : Type 0 where
  pub front : List ℕ
  pub after : List ℕ
  pub split : t ≡ front ++ after
  pub clear : unbroken front ≡ front
  pub ended : ends_word after ≡ true
  pub lexed : (r : List ℕ) → ends_word r ≡ true → lex between (front ++ r) ≡ token k ∷ lex between r

passed : (b : Bool) (k : Token) → is_good (cond b k bad) ≡ true → b ≡ true
passed true k h = refl
passed false k h = h

a_literal : (name : List ℕ) (k : Token) (t : List ℕ) → unbroken name ≡ name → ((r : List ℕ) → ends_word r ≡ true → lex between (name ++ r) ≡ token k ∷ lex between r)
    → is_good (literal name k t) ≡ true → (literal name k t ≡ k) × BeginsWith k t
a_literal name k t clear lexed h =
    let holds = passed _ k h in
    let both = and_parts _ _ holds in
    let is : name ≡ take (length name) t = (bytes_eq-Decides name (take (length name) t)).0 both.0 in (
      ap (λ (b : Bool). cond b k bad) holds,
      record {
        front = name;
        after = drop (length name) t;
        split = sym (take-append-drop (length name) t) ∙ ap (λ (z : List ℕ). z ++ drop (length name) t) (sym is);
        clear = clear;
        ended = both.1;
        lexed = lexed;
      },
    )

take_front : (a r : List ℕ) → take (length (a ++ r) - length r) (a ++ r) ≡ a
take_front a r = take_at a r (length (a ++ r) - length r) (omega (arith, length-append a r))

a_number : (t : List ℕ) (o : Option (List ℕ)) → after_number t ≡ o → Takes t o → is_good (number_before t o) ≡ true → (k : Token) × (number_before t o ≡ k) × BeginsWith k t
a_number t None e took h = absurd (false≢true h)
a_number t (Some r) e took h =
    let ended = passed (ends_word r) _ h in
    let is : IsNumber took.front = number_alone took.front r ended (ap after_number (sym took.split) ∙ e) in (
      number took.front,
      ap₂ (λ (b : Bool) (s : List ℕ). cond b (number s) bad) ended (ap (λ (z : List ℕ). take (length z - length r) z) took.split ∙ take_front took.front r),
      record {
        front = took.front;
        after = r;
        split = took.split;
        clear = took.clear;
        ended = ended;
        lexed = λ s last. lex-number took.front s is last;
      },
    )

lex_true : (r : List ℕ) → ends_word r ≡ true → lex between (116 ∷ 114 ∷ 117 ∷ 101 ∷ r) ≡ token (boolean true) ∷ lex between r
unfolding lex word
lex_true r h = ap₂ (λ (b : Bool) (l : List Lexeme). token (cond b (boolean true) bad) ∷ l) h (in_word-ended r h)

lex_false : (r : List ℕ) → ends_word r ≡ true → lex between (102 ∷ 97 ∷ 108 ∷ 115 ∷ 101 ∷ r) ≡ token (boolean false) ∷ lex between r
unfolding lex word
lex_false r h = ap₂ (λ (b : Bool) (l : List Lexeme). token (cond b (boolean false) bad) ∷ l) h (in_word-ended r h)

lex_null : (r : List ℕ) → ends_word r ≡ true → lex between (110 ∷ 117 ∷ 108 ∷ 108 ∷ r) ≡ token null ∷ lex between r
unfolding lex word
lex_null r h = ap₂ (λ (b : Bool) (l : List Lexeme). token (cond b null bad) ∷ l) h (in_word-ended r h)

-- a token that is some word, with the text that begins with it
abbrev Begins : List ℕ → Token → Type 0
Begins t w = (k : Token) × (w ≡ k) × BeginsWith k t

choose : (t : List ℕ) (b : Bool) (x y : Token) → (is_good x ≡ true → Begins t x) → (is_good y ≡ true → Begins t y) → is_good (cond b x y) ≡ true → Begins t (cond b x y)
choose t true x y f g = f
choose t false x y f g = g

named : (name : List ℕ) (k : Token) (t : List ℕ) → unbroken name ≡ name → ((r : List ℕ) → ends_word r ≡ true → lex between (name ++ r) ≡ token k ∷ lex between r) → is_good (literal name k t) ≡ true → Begins t (literal name k t)
named name k t clear lexed h = let found = a_literal name k t clear lexed h in (k, found.0, found.1)

some_word : (t : List ℕ) → is_good (word t) ≡ true → Begins t (word t)
unfolding word
some_word t =
    choose t (head t == 116) _ _ (named (116 ∷ 114 ∷ 117 ∷ 101 ∷ []) (boolean true) t refl lex_true)
    (choose t (head t == 102) _ _ (named (102 ∷ 97 ∷ 108 ∷ 115 ∷ 101 ∷ []) (boolean false) t refl lex_false)
    (choose t (head t == 110) _ _ (named (110 ∷ 117 ∷ 108 ∷ 108 ∷ []) null t refl lex_null) (a_number t (after_number t) refl (whole_number t))))

pub good_word : (t : List ℕ) → is_good (word t) ≡ true → BeginsWith (word t) t
good_word t h = let found = some_word t h in subst (λ k. BeginsWith k t) (sym found.1) found.2

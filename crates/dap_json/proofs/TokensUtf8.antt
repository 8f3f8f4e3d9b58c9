-- The texts of a JSON value are UTF-8, where the text is that it was read from.
use Rattle.std.proofs.Common.{◌≡◌, ℕ, zero, suc, Bool, true, false, cond, ◌==◌, List, [], ◌∷◌, ◌++◌, length, take, drop, ◌-◌, ◌&&◌, ◌<◌, nat_eq, IsUtf8, Option, Some, None, option_and_then, refl, sym, subst, arith, append_assoc}
use Rattle.std.proofs.lemmas.Bool.{eqb-true}
use Rattle.std.specs.Prelude.{⊤}
use Rattle.json.specs.Token.{Token, begin_object, end_object, begin_array, end_array, key, string, number, boolean, null, bad}
use Rattle.std.specs.List.{starts_with}
use Rattle.json.specs.Ascii as ascii
use Rattle.json.specs.Word.{head, ends_word, after_number, word, literal, number_before}
use Rattle.json.specs.Lex.{Lexeme, token, comma, colon, Class, quote, backslash, operator, space, other, class, operator_lexeme, string_token, Mode, between, in_word, in_string, in_escape, lex_byte, lex, Place, fresh, after_value, after_comma, after_key, if_allowed, place_token, punctuate, tokens}
use Rattle.json.specs.Json as json
use Rattle.json.specs.Json.{Parse, parse_map, after_end_array, read_key, items_step, members_step, items, members, value_with, value}
use Rattle.dap_json.proofs.TextUtf8.{cut, Keeps, content_utf8}

-- ---- the lexer

abbrev InToken : Token → Type 0
InToken begin_object = ⊤
InToken end_object = ⊤
InToken begin_array = ⊤
InToken end_array = ⊤
InToken (key s) = IsUtf8 s
InToken (string s) = IsUtf8 s
InToken (number s) = ⊤
InToken (boolean b) = ⊤
InToken null = ⊤
InToken bad = ⊤

abbrev InLexeme : Lexeme → Type 0
InLexeme (token t) = InToken t
InLexeme comma = ⊤
InLexeme colon = ⊤

abbrev InLexemes : List Lexeme → Type 0
InLexemes [] = ⊤
InLexemes (l ∷ ls) = InLexeme l × InLexemes ls

abbrev pub InTokens : List Token → Type 0
InTokens [] = ⊤
InTokens (t ∷ ts) = InToken t × InTokens ts

either_token : (b : Bool) (t u : Token) → InToken t → InToken u → InToken (cond b t u)
either_token true t u p q = p
either_token false t u p q = q

operator_at : (a b c d e : Bool) → InLexeme (cond a (token begin_object) (cond b (token end_object) (cond c (token begin_array) (cond d (token end_array) (cond e comma colon)))))
operator_at true b c d e = tt
operator_at false true c d e = tt
operator_at false false true d e = tt
operator_at false false false true e = tt
operator_at false false false false true = tt
operator_at false false false false false = tt

of_operator : (x : ℕ) → InLexeme (operator_lexeme x)
of_operator x = operator_at (x == ascii.open_brace) (x == ascii.close_brace) (x == ascii.open_bracket) (x == ascii.close_bracket) (x == ascii.comma)

of_number : (t : List ℕ) (o : Option (List ℕ)) → InToken (number_before t o)
of_number t None = tt
of_number t (Some r) = either_token (ends_word r) (number (take (length t - length r) t)) bad tt tt

of_literal : (name : List ℕ) (u : Token) (t : List ℕ) → InToken u → InToken (literal name u t)
of_literal name u t h = either_token (starts_with nat_eq t name && ends_word (drop (length name) t)) u bad h tt

word_at : (a b c : Bool) (t u v w : Token) → InToken t → InToken u → InToken v → InToken w → InToken (cond a t (cond b u (cond c v w)))
word_at true b c t u v w p q r s = p
word_at false true c t u v w p q r s = q
word_at false false true t u v w p q r s = r
word_at false false false t u v w p q r s = s

of_word : (t : List ℕ) → InToken (word t)
unfolding word
of_word t =
    word_at (head t == ascii.lower_t) (head t == ascii.lower_f) (head t == ascii.lower_n) (literal ascii.true_text (boolean true) t) (literal ascii.false_text (boolean false) t) (literal ascii.null_text null t)
    (number_before t (after_number t)) (of_literal ascii.true_text (boolean true) t tt) (of_literal ascii.false_text (boolean false) t tt) (of_literal ascii.null_text null t tt) (of_number t (after_number t))

of_string : (o : Option (List ℕ)) → Keeps [] o → InToken (string_token o)
of_string None k = tt
of_string (Some s) k = k

class_at : (q b o s : Bool) → cond q quote (cond b backslash (cond o operator (cond s space other))) ≡ quote → q ≡ true
class_at true b o s e = refl
class_at false true o s e = absurd (cc e)
class_at false false true s e = absurd (cc e)
class_at false false false true e = absurd (cc e)
class_at false false false false e = absurd (cc e)

is_quote : (x : ℕ) → class x ≡ quote → x ≡ 34
is_quote x e = eqb-true x 34 (class_at (x == 34) _ _ _ e)

of_byte : (m : Mode) (c : Class) (x : ℕ) (xs : List ℕ) (k : Mode → List Lexeme) → (c ≡ quote → IsUtf8 xs) → ((n : Mode) → InLexemes (k n)) → InLexemes (lex_byte m c x xs k)
of_byte between quote x xs k u later = (of_string _ (content_utf8 xs (u refl)), later in_string)
of_byte between backslash x xs k u later = (tt, later in_word)
of_byte between operator x xs k u later = (of_operator x, later between)
of_byte between space x xs k u later = later between
of_byte between other x xs k u later = (of_word (x ∷ xs), later in_word)
of_byte in_word quote x xs k u later = later in_word
of_byte in_word backslash x xs k u later = later in_word
of_byte in_word operator x xs k u later = (of_operator x, later between)
of_byte in_word space x xs k u later = later between
of_byte in_word other x xs k u later = later in_word
of_byte in_string quote x xs k u later = later between
of_byte in_string backslash x xs k u later = later in_escape
of_byte in_string operator x xs k u later = later in_string
of_byte in_string space x xs k u later = later in_string
of_byte in_string other x xs k u later = later in_string
of_byte in_escape c x xs k u later = later in_string

lexed : (m : Mode) (xs ws : List ℕ) → IsUtf8 (ws ++ xs) → InLexemes (lex m xs)
unfolding lex
lexed m [] ws u = tt
lexed m (x ∷ xs) ws u =
    let at_quote = λ (e : class x ≡ quote). let small : x < 128 = omega (arith, is_quote x e) in (cut ws xs x small u).1 in
    of_byte m (class x) x xs (λ n. lex n xs) at_quote (λ n. lexed n xs (ws ++ x ∷ []) (subst IsUtf8 (sym (append_assoc ws (x ∷ []) xs)) u))

-- ---- commas and colons

allowed : (b : Bool) (t : Token) (k : Place → List Token) (p : Place) → InToken t → InTokens (k p) → InTokens (if_allowed b t k p)
allowed true t k p u later = (u, later)
allowed false t k p u later = (tt, tt)

placed : (p : Place) (t : Token) (b : Bool) (k : Place → List Token) → InToken t → ((q : Place) → InTokens (k q)) → InTokens (place_token p t b k)
placed p begin_object b k u later = allowed _ begin_object k fresh tt (later fresh)
placed p end_object b k u later = allowed _ end_object k after_value tt (later after_value)
placed p begin_array b k u later = allowed _ begin_array k fresh tt (later fresh)
placed p end_array b k u later = allowed _ end_array k after_value tt (later after_value)
placed p (key s) b k u later = (tt, tt)
placed p (string s) true k u later = allowed _ (key s) k after_key u (later after_key)
placed p (string s) false k u later = allowed _ (string s) k after_value u (later after_value)
placed p (number s) b k u later = allowed _ (number s) k after_value tt (later after_value)
placed p (boolean c) b k u later = allowed _ (boolean c) k after_value tt (later after_value)
placed p null b k u later = allowed _ null k after_value tt (later after_value)
placed p bad b k u later = (tt, tt)

punctuated : (p : Place) (ls : List Lexeme) → InLexemes ls → InTokens (punctuate p ls)
unfolding punctuate
punctuated fresh [] h = tt
punctuated after_value [] h = tt
punctuated after_comma [] h = (tt, tt)
punctuated after_key [] h = (tt, tt)
punctuated fresh (token t ∷ ls) h = placed fresh t _ (λ n. punctuate n ls) h.0 (λ q. punctuated q ls h.1)
punctuated after_value (token t ∷ ls) h = placed after_value t _ (λ n. punctuate n ls) h.0 (λ q. punctuated q ls h.1)
punctuated after_comma (token t ∷ ls) h = placed after_comma t _ (λ n. punctuate n ls) h.0 (λ q. punctuated q ls h.1)
punctuated after_key (token t ∷ ls) h = placed after_key t _ (λ n. punctuate n ls) h.0 (λ q. punctuated q ls h.1)
punctuated fresh (comma ∷ ls) h = (tt, tt)
punctuated after_value (comma ∷ ls) h = punctuated after_comma ls h.1
punctuated after_comma (comma ∷ ls) h = (tt, tt)
punctuated after_key (comma ∷ ls) h = (tt, tt)
punctuated fresh (colon ∷ ls) h = (tt, tt)
punctuated after_value (colon ∷ ls) h = (tt, tt)
punctuated after_comma (colon ∷ ls) h = (tt, tt)
punctuated after_key (colon ∷ ls) h = punctuated fresh ls h.1

pub tokens_utf8 : (text : List ℕ) → IsUtf8 text → InTokens (tokens text)
tokens_utf8 text u = punctuated fresh _ (lexed between text [] u)

-- ---- the grammar

abbrev mutual
  pub InJson : json.Json → Type 0
  InJson json.null = ⊤
  InJson (json.boolean b) = ⊤
  InJson (json.number s) = ⊤
  InJson (json.string s) = IsUtf8 s
  InJson (json.array js) = InItems js
  InJson (json.object ms) = InMembers ms

  pub InItems : json.Items → Type 0
  InItems json.no_items = ⊤
  InItems (json.item j js) = InJson j × InItems js

  pub InMembers : json.Members → Type 0
  InMembers json.no_members = ⊤
  InMembers (json.member k j ms) = IsUtf8 k × InJson j × InMembers ms

abbrev Gives : {A : Type 0} → (A → Type 0) → Option (A × List Token) → Type 0
Gives P None = ⊤
Gives P (Some p) = P p.0 × InTokens p.1

abbrev Reads : {A : Type 0} → (A → Type 0) → Parse A → Type 0
Reads P p = (ts : List Token) → InTokens ts → Gives P (p ts)

mapped : {A B : Type 0} (P : A → Type 0) (Q : B → Type 0) (h : A → B) → ((a : A) → P a → Q (h a)) → (o : Option (A × List Token)) → Gives P o → Gives Q (parse_map h o)
mapped P Q h k None x = tt
mapped P Q h k (Some p) x = (k p.0 x.0, x.1)

and_more : {B : Type 0} (Q : B → Type 0) (h : json.Json → B → B) → ((j : json.Json) (b : B) → InJson j → Q b → Q (h j b)) → (more : Parse B) → Reads Q more
    → (o : Option (json.Json × List Token)) → Gives InJson o → Gives Q (option_and_then (λ q. parse_map (h q.0) (more q.1)) o)
and_more Q h is more reads None x = tt
and_more Q h is more reads (Some q) x = mapped Q Q (h q.0) (λ b y. is q.0 b x.0 y) _ (reads q.1 x.1)

after_end : (ts r : List Token) → InTokens ts → after_end_array ts ≡ Some r → InTokens r
after_end [] r u e = absurd (cc e)
after_end (begin_object ∷ ts) r u e = absurd (cc e)
after_end (end_object ∷ ts) r u e = absurd (cc e)
after_end (begin_array ∷ ts) r u e = absurd (cc e)
after_end (end_array ∷ ts) r u e = let is : ts ≡ r = cc e in subst InTokens is u.1
after_end (key s ∷ ts) r u e = absurd (cc e)
after_end (string s ∷ ts) r u e = absurd (cc e)
after_end (number s ∷ ts) r u e = absurd (cc e)
after_end (boolean b ∷ ts) r u e = absurd (cc e)
after_end (null ∷ ts) r u e = absurd (cc e)
after_end (bad ∷ ts) r u e = absurd (cc e)

abbrev InKey : Option (List ℕ) → Type 0
InKey None = ⊤
InKey (Some k) = IsUtf8 k

of_key : Reads InKey read_key
of_key [] u = tt
of_key (begin_object ∷ ts) u = tt
of_key (end_object ∷ ts) u = (tt, u.1)
of_key (begin_array ∷ ts) u = tt
of_key (end_array ∷ ts) u = tt
of_key (key s ∷ ts) u = u
of_key (string s ∷ ts) u = tt
of_key (number s ∷ ts) u = tt
of_key (boolean b ∷ ts) u = tt
of_key (null ∷ ts) u = tt
of_key (bad ∷ ts) u = tt

module _ (p : Parse json.Json) (reads : Reads InJson p) where
  item_turn : (more : Parse json.Items) → Reads InItems more → (ts : List Token) (o : Option (List Token)) → InTokens ts → after_end_array ts ≡ o → Gives InItems (items_step p more ts o)
  item_turn more again ts (Some r) u e = (tt, after_end ts r u e)
  item_turn more again ts None u e = and_more InItems json.item (λ j b x y. (x, y)) more again (p ts) (reads ts u)

  of_items : (n : ℕ) → Reads InItems (items p n)
  unfolding items
  of_items zero ts u = tt
  of_items (suc n) ts u = item_turn (items p n) (of_items n) ts (after_end_array ts) u refl

  member_turn : (more : Parse json.Members) → Reads InMembers more → (o : Option (Option (List ℕ) × List Token)) → Gives InKey o → Gives InMembers (option_and_then (λ q. members_step p more q.0 q.1) o)
  member_turn more again None x = tt
  member_turn more again (Some (None, s)) x = (tt, x.1)
  member_turn more again (Some (Some k, s)) x = and_more InMembers (json.member k) (λ j b y z. (x.0, y, z)) more again (p s) (reads s x.1)

  of_members : (n : ℕ) → Reads InMembers (members p n)
  unfolding members
  of_members zero ts u = tt
  of_members (suc n) ts u = member_turn (members p n) (of_members n) (read_key ts) (of_key ts u)

one_level : (a : Parse json.Items) (o : Parse json.Members) → Reads InItems a → Reads InMembers o → Reads InJson (value_with a o)
one_level a o p q [] u = tt
one_level a o p q (begin_object ∷ ts) u = mapped InMembers InJson json.object (λ ms x. x) _ (q ts u.1)
one_level a o p q (end_object ∷ ts) u = tt
one_level a o p q (begin_array ∷ ts) u = mapped InItems InJson json.array (λ js x. x) _ (p ts u.1)
one_level a o p q (end_array ∷ ts) u = tt
one_level a o p q (key s ∷ ts) u = tt
one_level a o p q (string s ∷ ts) u = u
one_level a o p q (number s ∷ ts) u = (tt, u.1)
one_level a o p q (boolean b ∷ ts) u = (tt, u.1)
one_level a o p q (null ∷ ts) u = (tt, u.1)
one_level a o p q (bad ∷ ts) u = tt

pub of_value : (d : ℕ) → Reads InJson (value d)
unfolding value
of_value zero = one_level (λ ts. None) (λ ts. None) (λ ts u. tt) (λ ts u. tt)
of_value (suc d) =
    one_level (λ ts. items (value d) (length ts) ts) (λ ts. members (value d) (length ts) ts)
    (λ ts u. of_items (value d) (of_value d) (length ts) ts u) (λ ts u. of_members (value d) (of_value d) (length ts) ts u)

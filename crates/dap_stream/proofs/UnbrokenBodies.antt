-- A body without its line feeds and carriage returns is the same JSON: between tokens they are blanks, and in a text they are refused.
use Rattle.std.proofs.Common.{◌≡◌, ℕ, zero, suc, ◌<◌, ◌≤◌, ◌==◌, ◌&&◌, ◌||◌, Bool, true, false, cond, List, [], ◌∷◌, ◌++◌, length, get_or, Option, Some, None, option_and_then, refl, sym, ap, ap₂, ◌∙◌, subst, arith, length-append, append-nil, inl, inr, IsUtf8, if◌then◌else◌}
use Rattle.std.specs.Str.{is_utf8}
use Rattle.std.proofs.lemmas.Bool.{true≢false, false≢true, and_parts, cases_Bool, cases_lt}
use Rattle.std.proofs.lemmas.Str.{IsUtf8-append, IsUtf8-nil, IsUtf8-encode, IsUtf8-from_is_utf8, is_utf8-from_IsUtf8, encode_ascii, inside_one}
use lib.Utf8.{scalar, scalars, encode, encodes}
use Rattle.json.specs.Token.{Token, begin_object, end_object, begin_array, end_array, key, string, number, boolean, null, bad}
use Rattle.json.specs.Text.{content, plain}
use Rattle.json.specs.Word.{is_operator, is_space, head, ends_word, after_number, number_before, word}
use Rattle.json.specs.Lex.{Lexeme, token, comma, colon, Class, quote, backslash, operator, space, other, class, operator_lexeme, string_token, between, in_word, in_string, lex_byte, lex}
use Rattle.json.specs.Lex.{Place, fresh, after_value, after_comma, after_key, begins_colon, may_begin, may_close, if_allowed, place_token, punctuate, tokens}
use Rattle.json.specs.Json as json
use Rattle.json.specs.Json.{Parse, parse_map, after_end_array, read_key, items_step, members_step, items, members, value_with, value, if_last}
use Rattle.json.specs.Align.{is_good}
use Rattle.serde_json.specs.Data.{Data}
use Rattle.serde_json.specs.Read.{of_json, read, max_depth}
use Rattle.dap_json.specs.Read.{json_of}
use Rattle.dap_stream.specs.Lines.{is_break, unbroken}
use Rattle.dap_stream.proofs.UnbrokenTexts.{unbroken-append, kept, left_out, no_break, plain_text}
use Rattle.dap_stream.proofs.UnbrokenWords.{good_word}

-- ---- a value has no bad token

abbrev fine : List Token → Bool
fine [] = true
fine (t ∷ ts) = is_good t && fine ts

abbrev Keeps : {A : Type 0} → Parse A → Type 0
Keeps {A} p = (ts : List Token) (o : A × List Token) → p ts ≡ Some o → fine o.1 ≡ true → fine ts ≡ true

record Bound {A B : Type 0} (f : A → Option B) (r : Option A) (o : B) : Type 0 where
  pub first : A
  pub is : r ≡ Some first
  pub gives : f first ≡ Some o

bound : {A B : Type 0} (f : A → Option B) (r : Option A) (o : B) → option_and_then f r ≡ Some o → Bound f r o
bound f None o h = absurd (cc h)
bound f (Some a) o h = record { first = a; is = refl; gives = h }

record Mapped {A B : Type 0} (r : Option (A × List Token)) (o : B × List Token) : Type 0 where
  pub first : A × List Token
  pub is : r ≡ Some first
  pub rest : first.1 ≡ o.1

mapped : {A B : Type 0} (f : A → B) (r : Option (A × List Token)) (o : B × List Token) → parse_map f r ≡ Some o → Mapped r o
mapped f None o h = absurd (cc h)
mapped f (Some p) o h = let e : (f p.0, p.1) ≡ o = cc h in record { first = p; is = refl; rest = ap (λ (z : _ × List Token). z.1) e }

rest_is : {A : Type 0} (a : A) (ts : List Token) (o : A × List Token) → Some (a, ts) ≡ Some o → fine o.1 ≡ true → fine ts ≡ true
rest_is a ts o h e = let same : (a, ts) ≡ o = cc h in ap (λ (z : _ × List Token). fine z.1) same ∙ e

through : {A B : Type 0} (f : A → B) (p : Parse A) → Keeps p → (ts : List Token) (o : B × List Token) → parse_map f (p ts) ≡ Some o → fine o.1 ≡ true → fine ts ≡ true
through f p keeps ts o h e = let m = mapped f (p ts) o h in keeps ts m.first m.is (ap fine m.rest ∙ e)

value_keeps : (a : Parse json.Items) (o : Parse json.Members) → Keeps a → Keeps o → Keeps (value_with a o)
value_keeps a o ka ko [] r h e = absurd (cc h)
value_keeps a o ka ko (begin_object ∷ ts) r h e = through json.object o ko ts r h e
value_keeps a o ka ko (end_object ∷ ts) r h e = absurd (cc h)
value_keeps a o ka ko (begin_array ∷ ts) r h e = through json.array a ka ts r h e
value_keeps a o ka ko (end_array ∷ ts) r h e = absurd (cc h)
value_keeps a o ka ko (key s ∷ ts) r h e = absurd (cc h)
value_keeps a o ka ko (string s ∷ ts) r h e = rest_is (json.string s) ts r h e
value_keeps a o ka ko (number s ∷ ts) r h e = rest_is (json.number s) ts r h e
value_keeps a o ka ko (boolean b ∷ ts) r h e = rest_is (json.boolean b) ts r h e
value_keeps a o ka ko (null ∷ ts) r h e = rest_is json.null ts r h e
value_keeps a o ka ko (bad ∷ ts) r h e = absurd (cc h)

end_keeps : (ts r : List Token) → after_end_array ts ≡ Some r → fine r ≡ true → fine ts ≡ true
end_keeps [] r h e = absurd (cc h)
end_keeps (begin_object ∷ ts) r h e = absurd (cc h)
end_keeps (end_object ∷ ts) r h e = absurd (cc h)
end_keeps (begin_array ∷ ts) r h e = absurd (cc h)
end_keeps (end_array ∷ ts) r h e = let same : ts ≡ r = cc h in ap fine same ∙ e
end_keeps (key s ∷ ts) r h e = absurd (cc h)
end_keeps (string s ∷ ts) r h e = absurd (cc h)
end_keeps (number s ∷ ts) r h e = absurd (cc h)
end_keeps (boolean b ∷ ts) r h e = absurd (cc h)
end_keeps (null ∷ ts) r h e = absurd (cc h)
end_keeps (bad ∷ ts) r h e = absurd (cc h)

key_keeps : (ts : List Token) (o : Option (List ℕ) × List Token) → read_key ts ≡ Some o → fine o.1 ≡ true → fine ts ≡ true
key_keeps [] o h e = absurd (cc h)
key_keeps (begin_object ∷ ts) o h e = absurd (cc h)
key_keeps (end_object ∷ ts) o h e = rest_is None ts o h e
key_keeps (begin_array ∷ ts) o h e = absurd (cc h)
key_keeps (end_array ∷ ts) o h e = absurd (cc h)
key_keeps (key s ∷ ts) o h e = rest_is (Some s) ts o h e
key_keeps (string s ∷ ts) o h e = absurd (cc h)
key_keeps (number s ∷ ts) o h e = absurd (cc h)
key_keeps (boolean b ∷ ts) o h e = absurd (cc h)
key_keeps (null ∷ ts) o h e = absurd (cc h)
key_keeps (bad ∷ ts) o h e = absurd (cc h)

module _ (p : Parse json.Json) (keeps : Keeps p) where
  item_keeps : (more : Parse json.Items) → Keeps more → (ts : List Token) (end : Option (List Token)) → after_end_array ts ≡ end → (o : json.Items × List Token) → items_step p more ts end ≡ Some o → fine o.1 ≡ true → fine ts ≡ true
  item_keeps more km ts (Some r) found o h e = end_keeps ts r found (rest_is json.no_items r o h e)
  item_keeps more km ts None found o h e =
      let b = bound (λ q. parse_map (json.item q.0) (more q.1)) (p ts) o h in
      keeps ts b.first b.is (through (json.item b.first.0) more km b.first.1 o b.gives e)

  items_keep : (n : ℕ) → Keeps (items p n)
  unfolding items
  items_keep zero ts o h e = absurd (cc h)
  items_keep (suc n) ts o h e = item_keeps (items p n) (items_keep n) ts (after_end_array ts) refl o h e

  member_keeps : (more : Parse json.Members) → Keeps more → (k : Option (List ℕ)) → Keeps (members_step p more k)
  member_keeps more km None ts o h e = rest_is json.no_members ts o h e
  member_keeps more km (Some k) ts o h e =
      let b = bound (λ q. parse_map (json.member k q.0) (more q.1)) (p ts) o h in
      keeps ts b.first b.is (through (json.member k b.first.0) more km b.first.1 o b.gives e)

  members_keep : (n : ℕ) → Keeps (members p n)
  unfolding members
  members_keep zero ts o h e = absurd (cc h)
  members_keep (suc n) ts o h e =
      let b = bound (λ q. members_step p (members p n) q.0 q.1) (read_key ts) o h in
      key_keeps ts b.first b.is (member_keeps (members p n) (members_keep n) b.first.0 b.first.1 o b.gives e)

each_value_keeps : (depth : ℕ) → Keeps (value depth)
unfolding value
each_value_keeps zero = value_keeps (λ ts. None) (λ ts. None) (λ ts o h e. absurd (cc h)) (λ ts o h e. absurd (cc h))
each_value_keeps (suc depth) =
    value_keeps (λ ts. items (value depth) (length ts) ts) (λ ts. members (value depth) (length ts) ts)
    (λ ts. items_keep (value depth) (each_value_keeps depth) (length ts) ts) (λ ts. members_keep (value depth) (each_value_keeps depth) (length ts) ts)

last_is : (j k : json.Json) (ts : List Token) → if_last j ts ≡ Some k → fine ts ≡ true
last_is j k [] h = refl
last_is j k (t ∷ ts) h = absurd (cc h)

read_is_fine : (text : List ℕ) (d : Data) → read text ≡ Some d → fine (tokens text) ≡ true
read_is_fine text d h =
    let b = bound of_json (option_and_then (λ p. if_last p.0 p.1) (value max_depth (tokens text))) d h in
    let v = bound (λ p. if_last p.0 p.1) (value max_depth (tokens text)) b.first b.is in
    each_value_keeps max_depth (tokens text) v.first v.is (last_is v.first.0 b.first v.first.1 v.gives)

-- ---- a word is a number, a literal or bad

abbrev IsWord : Token → Type 0
IsWord begin_object = ⊥
IsWord end_object = ⊥
IsWord begin_array = ⊥
IsWord end_array = ⊥
IsWord (key s) = ⊥
IsWord (string s) = ⊥
IsWord (number s) = Unit {0}
IsWord (boolean v) = Unit {0}
IsWord null = Unit {0}
IsWord bad = Unit {0}

either_word : (b : Bool) (x y : Token) → IsWord x → IsWord y → IsWord (cond b x y)
either_word true x y p q = p
either_word false x y p q = q

number_word : (t : List ℕ) (o : Option (List ℕ)) → IsWord (number_before t o)
number_word t None = tt
number_word t (Some r) = either_word (ends_word r) _ bad tt tt

word_is_one : (t : List ℕ) → IsWord (word t)
unfolding word
word_is_one t =
    either_word (head t == 116) _ _ (either_word _ (boolean true) bad tt tt) (either_word (head t == 102) _ _ (either_word _ (boolean false) bad tt tt)
    (either_word (head t == 110) _ _ (either_word _ null bad tt tt) (number_word t (after_number t))))

-- ---- what follows a lexeme

allowed_goes : (b : Bool) (t : Token) (k : Place → List Token) (next : Place) → fine (if_allowed b t k next) ≡ true → fine (k next) ≡ true
allowed_goes true t k next h = (and_parts (is_good t) (fine (k next)) h).1
allowed_goes false t k next h = absurd (false≢true h)

after_token : (p : Place) (t : Token) (b : Bool) (k : Place → List Token) → fine (place_token p t b k) ≡ true → (n : Place) × (fine (k n) ≡ true)
after_token p begin_object b k h = (fresh, allowed_goes (may_begin p) begin_object k fresh h)
after_token p end_object b k h = (after_value, allowed_goes (may_close p) end_object k after_value h)
after_token p begin_array b k h = (fresh, allowed_goes (may_begin p) begin_array k fresh h)
after_token p end_array b k h = (after_value, allowed_goes (may_close p) end_array k after_value h)
after_token p (key s) b k h = absurd (false≢true h)
after_token p (string s) true k h = (after_key, allowed_goes (may_begin p) (key s) k after_key h)
after_token p (string s) false k h = (after_value, allowed_goes (may_begin p) (string s) k after_value h)
after_token p (number s) b k h = (after_value, allowed_goes (may_begin p) (number s) k after_value h)
after_token p (boolean v) b k h = (after_value, allowed_goes (may_begin p) (boolean v) k after_value h)
after_token p null b k h = (after_value, allowed_goes (may_begin p) null k after_value h)
after_token p bad b k h = absurd (false≢true h)

after_word : (p : Place) (t : Token) (b : Bool) (k : Place → List Token) → IsWord t → fine (place_token p t b k) ≡ true → fine (k after_value) ≡ true
after_word p begin_object b k w h = absurd w
after_word p end_object b k w h = absurd w
after_word p begin_array b k w h = absurd w
after_word p end_array b k w h = absurd w
after_word p (key s) b k w h = absurd w
after_word p (string s) b k w h = absurd w
after_word p (number s) b k w h = allowed_goes (may_begin p) (number s) k after_value h
after_word p (boolean v) b k w h = allowed_goes (may_begin p) (boolean v) k after_value h
after_word p null b k w h = allowed_goes (may_begin p) null k after_value h
after_word p bad b k w h = absurd (false≢true h)

after_lexeme : (p : Place) (l : Lexeme) (ls : List Lexeme) → fine (punctuate p (l ∷ ls)) ≡ true → (n : Place) × (fine (punctuate n ls) ≡ true)
unfolding punctuate
after_lexeme p (token t) ls h = after_token p t (begins_colon ls) (λ n. punctuate n ls) h
after_lexeme fresh comma ls h = absurd (false≢true h)
after_lexeme after_value comma ls h = (after_comma, h)
after_lexeme after_comma comma ls h = absurd (false≢true h)
after_lexeme after_key comma ls h = absurd (false≢true h)
after_lexeme fresh colon ls h = absurd (false≢true h)
after_lexeme after_value colon ls h = absurd (false≢true h)
after_lexeme after_comma colon ls h = absurd (false≢true h)
after_lexeme after_key colon ls h = (fresh, h)

after_word_lexeme : (p : Place) (t : Token) (ls : List Lexeme) → IsWord t → fine (punctuate p (token t ∷ ls)) ≡ true → fine (punctuate after_value ls) ≡ true
unfolding punctuate
after_word_lexeme p t ls w h = after_word p t (begins_colon ls) (λ n. punctuate n ls) w h

-- no bad token is fine
bad_lexeme : (p : Place) (t : Token) (ls : List Lexeme) → is_good t ≡ false → fine (punctuate p (token t ∷ ls)) ≡ true → ⊥
unfolding punctuate
bad_lexeme p begin_object ls e h = true≢false e
bad_lexeme p end_object ls e h = true≢false e
bad_lexeme p begin_array ls e h = true≢false e
bad_lexeme p end_array ls e h = true≢false e
bad_lexeme p (key s) ls e h = true≢false e
bad_lexeme p (string s) ls e h = true≢false e
bad_lexeme p (number s) ls e h = true≢false e
bad_lexeme p (boolean v) ls e h = true≢false e
bad_lexeme p null ls e h = true≢false e
bad_lexeme p bad ls e h = false≢true h

-- ---- the classes of bytes

lexed_as : (c : Class) (x : ℕ) (xs : List ℕ) → class x ≡ c → lex between (x ∷ xs) ≡ lex_byte between c x xs (λ m. lex m xs)
unfolding lex
lexed_as c x xs e = ap (λ (k : Class). lex_byte between k x xs (λ m. lex m xs)) e

abbrev is_space_class : Class → Bool
is_space_class quote = false
is_space_class backslash = false
is_space_class operator = false
is_space_class space = true
is_space_class other = false

no_break_in : (x : ℕ) → is_space_class (class x) ≡ false → is_break x ≡ false
no_break_in x h = no_break x (λ e. true≢false (sym (ap (λ y. is_space_class (class y)) e) ∙ h)) (λ e. true≢false (sym (ap (λ y. is_space_class (class y)) e) ∙ h))

-- a class that ends a word
abbrev ends_class : Class → Bool
ends_class quote = false
ends_class backslash = false
ends_class operator = true
ends_class space = true
ends_class other = false

ends_by : (q b o s : Bool) → ends_class (cond q quote (cond b backslash (cond o operator (cond s space other)))) ≡ true → (o || s) ≡ true
ends_by true b o s h = absurd (false≢true h)
ends_by false true o s h = absurd (false≢true h)
ends_by false false true s h = refl
ends_by false false false true h = refl
ends_by false false false false h = absurd (false≢true h)

text_after_value : (o : Option (List ℕ)) (b : Bool) (k : Place → List Token) → fine (place_token after_value (string_token o) b k) ≡ true → ⊥
text_after_value None b k h = false≢true h
text_after_value (Some s) true k h = false≢true h
text_after_value (Some s) false k h = false≢true h

word_after_value : (w : Token) (b : Bool) (k : Place → List Token) → IsWord w → fine (place_token after_value w b k) ≡ true → ⊥
word_after_value begin_object b k w h = w
word_after_value end_object b k w h = w
word_after_value begin_array b k w h = w
word_after_value end_array b k w h = w
word_after_value (key s) b k w h = w
word_after_value (string s) b k w h = w
word_after_value (number s) b k w h = false≢true h
word_after_value (boolean v) b k w h = false≢true h
word_after_value null b k w h = false≢true h
word_after_value bad b k w h = false≢true h

-- after a value a word, a text or a backslash is no good
ended_as : (c : Class) (x : ℕ) (xs : List ℕ) → class x ≡ c → fine (punctuate after_value (lex_byte between c x xs (λ m. lex m xs))) ≡ true → ends_class c ≡ true
unfolding punctuate
ended_as quote x xs e h = absurd (text_after_value (content plain xs) _ _ h)
ended_as backslash x xs e h = absurd (false≢true h)
ended_as operator x xs e h = refl
ended_as space x xs e h = refl
ended_as other x xs e h = absurd (word_after_value (word (x ∷ xs)) _ _ (word_is_one (x ∷ xs)) h)

ended : (t : List ℕ) → fine (punctuate after_value (lex between t)) ≡ true → ends_word t ≡ true
ended [] h = refl
ended (x ∷ xs) h =
    ends_by (x == 34) (x == 92) (is_operator x) (is_space x)
    (ended_as (class x) x xs refl (ap (λ (ls : List Lexeme). fine (punctuate after_value ls)) (sym (lexed_as (class x) x xs refl)) ∙ h))

-- a word has bytes
some_front : (front : List ℕ) (k : Token) → ((r : List ℕ) → ends_word r ≡ true → lex between (front ++ r) ≡ token k ∷ lex between r) → 0 < length front
unfolding lex
some_front [] k h = absurd (cc (h [] refl))
some_front (y ∷ ys) k h = omega arith

-- ---- the lexemes stay

abbrev Fine : Place → List ℕ → Type 0
Fine p t = fine (punctuate p (lex between t)) ≡ true

abbrev Same : List ℕ → Type 0
Same t = lex between (unbroken t) ≡ lex between t

-- what is shown of each shorter end
abbrev Shorter : ℕ → Type 0
Shorter n = (t : List ℕ) → length t ≤ n → (p : Place) → Fine p t → Same t

module _ (n : ℕ) (shorter : Shorter n) (x : ℕ) (xs : List ℕ) (le : length (x ∷ xs) ≤ suc n) (p : Place) where
  fine_ones : (ls : List Lexeme) → lex between (x ∷ xs) ≡ ls → Fine p (x ∷ xs) → fine (punctuate p ls) ≡ true
  fine_ones ls e h = ap (λ (z : List Lexeme). fine (punctuate p z)) (sym e) ∙ h

  same_space : class x ≡ space → Fine p (x ∷ xs) → Same (x ∷ xs)
  same_space e h =
      let later = shorter xs (omega arith) p (fine_ones (lex between xs) (lexed_as space x xs e) h) in
      elim (cases_Bool (is_break x)) [
        | inl y ↦ ap (lex between) (left_out x xs y) ∙ later ∙ sym (lexed_as space x xs e)
        | inr k ↦ ap (lex between) (kept x xs k) ∙ lexed_as space x (unbroken xs) e ∙ later ∙ sym (lexed_as space x xs e)
      ]

  same_operator : class x ≡ operator → Fine p (x ∷ xs) → Same (x ∷ xs)
  same_operator e h =
      let next = after_lexeme p (operator_lexeme x) (lex between xs) (fine_ones _ (lexed_as operator x xs e) h) in
      let later = shorter xs (omega arith) next.0 next.1 in
      ap (lex between) (kept x xs (no_break_in x (ap is_space_class e))) ∙ lexed_as operator x (unbroken xs) e ∙ ap (λ (ls : List Lexeme). operator_lexeme x ∷ ls) later ∙ sym (lexed_as operator x xs e)

  same_text : class x ≡ quote → (o : Option (List ℕ)) → content plain xs ≡ o → Fine p (x ∷ xs) → Same (x ∷ xs)
  same_text e None found h =
      absurd (bad_lexeme p bad (lex in_string xs) refl (fine_ones _ (lexed_as quote x xs e ∙ ap (λ o. token (string_token o) ∷ lex in_string xs) found) h))
  same_text e (Some s) found h =
      let t = plain_text xs s found in
      let read : lex between (x ∷ xs) ≡ token (string s) ∷ lex between t.after = lexed_as quote x xs e ∙ ap₂ (λ (o : Option (List ℕ)) (ls : List Lexeme). token (string_token o) ∷ ls) found (ap (lex in_string) t.split ∙ t.lexed t.after) in
      let next = after_lexeme p (token (string s)) (lex between t.after) (fine_ones _ read h) in
      let later = shorter t.after (omega (arith, ap length t.split, length-append t.body (34 ∷ t.after))) next.0 next.1 in
      let cut : unbroken xs ≡ t.body ++ 34 ∷ unbroken t.after = ap unbroken t.split ∙ unbroken-append t.body (34 ∷ t.after) ∙ ap (λ (z : List ℕ). z ++ 34 ∷ unbroken t.after) t.clear in
      ap (lex between) (kept x xs (no_break_in x (ap is_space_class e)) ∙ ap (λ (z : List ℕ). x ∷ z) cut)
      ∙ lexed_as quote x (t.body ++ 34 ∷ unbroken t.after) e
      ∙ ap₂ (λ (o : Option (List ℕ)) (ls : List Lexeme). token (string_token o) ∷ ls) (t.read (unbroken t.after)) (t.lexed (unbroken t.after))
      ∙ ap (λ (ls : List Lexeme). token (string s) ∷ ls) later ∙ sym read

  same_word : class x ≡ other → (b : Bool) → is_good (word (x ∷ xs)) ≡ b → Fine p (x ∷ xs) → Same (x ∷ xs)
  same_word e false poor h = absurd (bad_lexeme p (word (x ∷ xs)) (lex in_word xs) poor (fine_ones _ (lexed_as other x xs e) h))
  same_word e true good h =
      let w = good_word (x ∷ xs) good in
      let read : lex between (x ∷ xs) ≡ token (word (x ∷ xs)) ∷ lex between w.after = ap (lex between) w.split ∙ w.lexed w.after w.ended in
      let next = after_word_lexeme p (word (x ∷ xs)) (lex between w.after) (word_is_one (x ∷ xs)) (fine_ones _ read h) in
      let later = shorter w.after (omega (arith, ap length w.split, length-append w.front w.after, some_front w.front (word (x ∷ xs)) w.lexed)) after_value next in
      let last = ended (unbroken w.after) (ap (λ (ls : List Lexeme). fine (punctuate after_value ls)) later ∙ next) in
      ap (lex between) (ap unbroken w.split ∙ unbroken-append w.front w.after ∙ ap (λ (z : List ℕ). z ++ unbroken w.after) w.clear)
      ∙ w.lexed (unbroken w.after) last ∙ ap (λ (ls : List Lexeme). token (word (x ∷ xs)) ∷ ls) later ∙ sym read

  same_as : (c : Class) → class x ≡ c → Fine p (x ∷ xs) → Same (x ∷ xs)
  same_as quote e h = same_text e (content plain xs) refl h
  same_as backslash e h = absurd (bad_lexeme p bad (lex in_word xs) refl (fine_ones _ (lexed_as backslash x xs e) h))
  same_as operator e h = same_operator e h
  same_as space e h = same_space e h
  same_as other e h = same_word e (is_good (word (x ∷ xs))) refl h

each_same : (n : ℕ) → Shorter n
each_same n [] le p h = refl
each_same zero (x ∷ xs) le p h = absurd (omega arith)
each_same (suc n) (x ∷ xs) le p h = same_as n (each_same n) x xs le p (class x) refl h

tokens_stay : (t : List ℕ) → fine (tokens t) ≡ true → tokens (unbroken t) ≡ tokens t
tokens_stay t h = ap (punctuate fresh) (each_same (length t) t (omega arith) fresh h)

-- ---- UTF-8

high_stay : (xs : List ℕ) → ((k : ℕ) → k < length xs → 128 ≤ get_or xs k 0) → unbroken xs ≡ xs
high_stay [] h = refl
high_stay (x ∷ xs) h =
    let high : 128 ≤ x = h 0 (omega arith) in
    kept x xs (no_break x (λ e. absurd (omega arith)) (λ e. absurd (omega arith))) ∙ ap (λ (z : List ℕ). x ∷ z) (high_stay xs (λ k below. h (suc k) (omega arith)))

one_char : (c : ℕ) → scalar c ≡ true → IsUtf8 (unbroken (encode c))
one_char c ok = elim (cases_lt c 128) [
  | inl small ↦ elim (cases_Bool (is_break c)) [
    | inl y ↦ subst IsUtf8 (sym (ap unbroken (encode_ascii c small) ∙ left_out c [] y)) IsUtf8-nil
    | inr k ↦ subst IsUtf8 (sym (ap unbroken (encode_ascii c small) ∙ kept c [] k ∙ sym (encode_ascii c small))) (IsUtf8-encode c ok)
  ]
  | inr big ↦
      let high : (k : ℕ) → k < length (encode c) → 128 ≤ get_or (encode c) k 0 = λ k below. elim (cases_lt (get_or (encode c) k 0) 128) [
        | inl low ↦ absurd (omega (arith, inside_one c [] (encode c) k (sym (append-nil _)) below low))
        | inr h ↦ h
      ] in
      subst IsUtf8 (sym (high_stay (encode c) high)) (IsUtf8-encode c ok)
]

all_chars : (cs : List ℕ) → scalars cs ≡ true → IsUtf8 (unbroken (encodes cs))
all_chars [] e = IsUtf8-nil
all_chars (c ∷ cs) e =
    let p = and_parts _ _ e in
    subst IsUtf8 (sym (unbroken-append (encode c) (encodes cs))) (IsUtf8-append (unbroken (encode c)) (unbroken (encodes cs)) (one_char c p.0) (all_chars cs p.1))

utf8_stays : (t : List ℕ) → is_utf8 t ≡ true → is_utf8 (unbroken t) ≡ true
utf8_stays t h =
    let u = IsUtf8-from_is_utf8 t h in
    is_utf8-from_IsUtf8 (unbroken t) (subst (λ z. IsUtf8 (unbroken z)) u.1.1 (all_chars u.0 u.1.0))

-- ---- the value

passes : (b : Bool) (o : Option Data) (d : Data) → (if b then o else None) ≡ Some d → (b ≡ true) × (o ≡ Some d)
passes true o d h = (refl, h)
passes false o d h = absurd (cc h)

pub value_stays : (t : List ℕ) (d : Data) → json_of t ≡ Some d → json_of (unbroken t) ≡ Some d
unfolding json_of
value_stays t d h =
    let both = passes (is_utf8 t) (read t) d h in
    ap₂ (λ (b : Bool) (o : Option Data). if b then o else None) (utf8_stays t both.0)
    (ap (λ (ts : List Token). option_and_then of_json (option_and_then (λ p. if_last p.0 p.1) (value max_depth ts))) (tokens_stay t (read_is_fine t d both.1)) ∙ both.1)

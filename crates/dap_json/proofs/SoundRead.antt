-- What is read of UTF-8 text is sound.
use Rattle.std.proofs.Common.{◌≡◌, ℕ, zero, suc, ◌^◌, ◌<◌, ◌≤◌, Bool, true, false, cond, ◌&&◌, nat_lt, nat_le, List, [], ◌∷◌, IsUtf8, Option, Some, None, option_map, option_and_then, refl, subst, arith}
use Rattle.std.proofs.lemmas.Bool.{and_parts, ltb-true, leb-true}
use Rattle.std.proofs.lemmas.Str.{IsUtf8-from_is_utf8}
use Rattle.std.specs.Float.{binary64, float_is_finite}
use Rattle.std.specs.Prelude.{⊤, ◌==◌, drop, slice_index}
use Rattle.std.specs.Str.{is_utf8}
use Rattle.fast_float.specs.Text.{minus, Parts, scan, digits_of, nearest, with_sign}
use Rattle.json.specs.Token.{Token}
use Rattle.json.specs.Lex.{tokens}
use Rattle.json.specs.Json as json
use Rattle.serde_json.specs.Data.{Num, unsigned, negative, float, number, array, object, item, Members, no_members, put}
use Rattle.serde_json.specs.Read.{is_integer, float_of, number_from, number_of, of_json, of_items, of_members, max_depth, read}
use Rattle.dap_json.specs.Read.{json_of, IsReadSound}
use Rattle.dap_json.specs.Sound.{IsSoundNumber, IsSound, AreSound, HasSound}
use Rattle.dap_json.proofs.SoundPut.{HasSound-put}
use Rattle.dap_json.proofs.TokensUtf8.{InTokens, InJson, InItems, InMembers, tokens_utf8, of_value}

abbrev Holds : {A : Type 0} → (A → Type 0) → Option A → Type 0
Holds P None = ⊤
Holds P (Some a) = P a

mapped : {A B : Type 0} (P : A → Type 0) (Q : B → Type 0) (h : A → B) → ((a : A) → P a → Q (h a)) → (o : Option A) → Holds P o → Holds Q (option_map h o)
mapped P Q h k None x = tt
mapped P Q h k (Some a) x = k a x

and_then : {A B : Type 0} (P : A → Type 0) (Q : B → Type 0) (h : A → Option B) → ((a : A) → P a → Holds Q (h a)) → (o : Option A) → Holds P o → Holds Q (option_and_then h o)
and_then P Q h k None x = tt
and_then P Q h k (Some a) x = k a x

-- ---- numbers

finite_at : (b : Bool) (sign : Bool) (p : Parts) → float_is_finite (nearest binary64 sign p) ≡ b → Holds IsSoundNumber (cond b (Some (float (nearest binary64 sign p))) None)
finite_at true sign p e = e
finite_at false sign p e = tt

of_float : (sign : Bool) (p : Parts) → Holds IsSoundNumber (float_of sign p)
of_float sign p = finite_at _ sign p refl

unsigned_at : (b : Bool) (p : Parts) → (is_integer p && nat_lt (digits_of p) (2 ^ 64)) ≡ b → Holds IsSoundNumber (cond b (Some (unsigned (digits_of p))) (float_of false p))
unsigned_at true p e = ltb-true _ _ (and_parts (is_integer p) _ e).1
unsigned_at false p e = of_float false p

below_zero : (n : ℕ) → 0 < n → n ≤ 2 ^ 63 → IsSoundNumber (negative (with_sign true n))
below_zero zero some h = absurd (omega arith)
below_zero (suc n) some h = omega arith

negative_at : (b : Bool) (p : Parts) → (is_integer p && nat_lt 0 (digits_of p) && nat_le (digits_of p) (2 ^ 63)) ≡ b → Holds IsSoundNumber (cond b (Some (negative (with_sign true (digits_of p)))) (float_of true p))
negative_at true p e =
    let q = and_parts (is_integer p && nat_lt 0 (digits_of p)) (nat_le (digits_of p) (2 ^ 63)) e in
    below_zero (digits_of p) (ltb-true _ _ (and_parts (is_integer p) (nat_lt 0 (digits_of p)) q.0).1) (leb-true _ _ q.1)
negative_at false p e = of_float true p

from_parts : (sign : Bool) (p : Parts) → Holds IsSoundNumber (number_from sign p)
from_parts false p = unsigned_at _ p refl
from_parts true p = negative_at _ p refl

either : (b : Bool) (o q : Option Num) → Holds IsSoundNumber o → Holds IsSoundNumber q → Holds IsSoundNumber (cond b o q)
either true o q x y = x
either false o q x y = y

of_number : (s : List ℕ) → Holds IsSoundNumber (number_of s)
unfolding number_of
of_number s =
    either (slice_index s 0 == minus) (number_from true (scan (drop 1 s))) (number_from false (scan s)) (from_parts true (scan (drop 1 s))) (from_parts false (scan s))

-- ---- values

mutual
  sound : (j : json.Json) → InJson j → Holds IsSound (of_json j)
  sound json.null u = tt
  sound (json.boolean b) u = tt
  sound (json.number s) u = mapped IsSoundNumber IsSound number (λ n x. x) (number_of s) (of_number s)
  sound (json.string s) u = u
  sound (json.array js) u = mapped AreSound IsSound array (λ ds x. x) _ (items_sound js u)
  sound (json.object ms) u = mapped HasSound IsSound object (λ ds x. x) _ (members_sound ms no_members u tt)

  items_sound : (js : json.Items) → InItems js → Holds AreSound (of_items js)
  items_sound json.no_items u = tt
  items_sound (json.item j js) u = and_then IsSound AreSound _ (λ d x. mapped AreSound AreSound (item d) (λ ds y. (x, y)) _ (items_sound js u.1)) _ (sound j u.0)

  members_sound : (ms : json.Members) (found : Members) → InMembers ms → HasSound found → Holds HasSound (of_members ms found)
  members_sound json.no_members found u h = h
  members_sound (json.member k j ms) found u h =
      and_then IsSound HasSound _ (λ d x. members_sound ms (put k d found) u.2 (HasSound-put k d found u.0 x h)) _ (sound j u.1)

whole : (o : Option (json.Json × List Token)) → Holds (λ p. InJson p.0 × InTokens p.1) o → Holds InJson (option_and_then (λ p. json.if_last p.0 p.1) o)
whole None h = tt
whole (Some (j, [])) h = h.0
whole (Some (j, t ∷ r)) h = tt

read_sound : (text : List ℕ) → IsUtf8 text → Holds IsSound (read text)
read_sound text u = and_then InJson IsSound of_json sound _ (whole _ (of_value max_depth (tokens text) (tokens_utf8 text u)))

json_at : (b : Bool) (bytes : List ℕ) → is_utf8 bytes ≡ b → Holds IsSound (cond b (read bytes) None)
json_at true bytes e = read_sound bytes (IsUtf8-from_is_utf8 bytes e)
json_at false bytes e = tt

pub is_read_sound : IsReadSound
unfolding json_of
is_read_sound bytes d e = subst (Holds IsSound) e (json_at _ bytes refl)

-- The grammar's loops, a turn at a time, where what was read before is not kept.
use Rattle.std.proofs.Common.{◌≡◌, ℕ, ◌-◌, ◌<◌, ◌≤◌, ◌^◌, ◌==◌, ◌&&◌, List, [], length, drop, slice_index, nat_lt, if◌then◌else◌, Bool, true, false, not, Float, Option, Some, None, option_map, option_and_then, refl, sym, ap, ◌∙◌, lt-ltb, ltb-true, eqb-true}
use Rattle.std.proofs.lemmas.Bool.{and_parts}
use Rattle.fast_float.specs.Text.{minus, Parts, scan, digits_of, IsInteger}
use Rattle.json.specs.Token.{Token}
use Rattle.json.specs.Json as json
use Rattle.json.specs.Json.{Parse, parse_map, after_end_array, read_key, items, members, if_last}
use Rattle.json.proofs.Grammar.{items_end, items_more, members_end, members_more}
use Rattle.serde_json.specs.Data.{Num, unsigned, float, Data, number, array, object, Items, no_items, item, Members, no_members, put}
use Rattle.serde_json.specs.Read.{of_json, of_items, of_members, converted, is_integer, number_of, float_of}
use Rattle.dap_json.specs.ObjectReader.{IsOther}

abbrev pick : {A : Type 0} → A → Option A → A
pick d None = d
pick d (Some a) = a

found : {B : Type 0} (r s : List Token) (x : Option B) (b : B) → option_map {U = B × List Token} (λ y. (y, r)) x ≡ Some (b, s) → (r ≡ s) × (x ≡ Some b)
found r s None b e = absurd (cc)
found r s (Some y) b e = let same = ap (pick (y, r)) e in (ap (λ p. p.1) same, ap (λ p. Some p.0) same)

-- what was converted was read
pub converted_some : {A B : Type 0} (f : A → Option B) (o : Option (A × List Token)) (b : B) (r : List Token) → converted f o ≡ Some (b, r) → (a : A) × (o ≡ Some (a, r)) × (f a ≡ Some b)
converted_some f None b r e = absurd (cc)
converted_some f (Some p) b r e = let both = found p.1 r (f p.0) b e in (p.0, ap (λ s. Some (p.0, s)) both.0, both.1)

twice : {A B : Type 0} (g : A → B) (r : List Token) (x : Option A) → option_map (λ b. (b, r)) (option_map g x) ≡ parse_map g (option_map (λ a. (a, r)) x)
twice g r None = refl
twice g r (Some a) = refl

pub converted-array : (o : Option (json.Items × List Token)) → converted of_json (parse_map json.array o) ≡ parse_map array (converted of_items o)
converted-array None = refl
converted-array (Some p) = twice array p.1 (of_items p.0)

pub converted-object : (o : Option (json.Members × List Token)) → converted of_json (parse_map json.object o) ≡ parse_map object (converted (λ ms. of_members ms no_members) o)
converted-object None = refl
converted-object (Some p) = twice object p.1 (of_members p.0 no_members)

with_item : (j : json.Json) (d : Data) → of_json j ≡ Some d → (o : Option (json.Items × List Token)) → converted of_items (parse_map (json.item j) o) ≡ parse_map (item d) (converted of_items o)
with_item j d e None = refl
with_item j d e (Some p) = rw e (twice (item d) p.1 (of_items p.0))

with_member : (k : List ℕ) (j : json.Json) (d : Data) (old : Members) → of_json j ≡ Some d → (o : Option (json.Members × List Token))
    → converted (λ ms. of_members ms old) (parse_map (json.member k j) o) ≡ converted (λ ms. of_members ms (put k d old)) o
with_member k j d old e None = refl
with_member k j d old e (Some p) = rw e

module _ (p : Parse json.Json) where
  pub item_read : (n : ℕ) (ts r : List Token) (d : Data) → 0 < n → after_end_array ts ≡ None → converted of_json (p ts) ≡ Some (d, r)
      → converted of_items (items p n ts) ≡ parse_map (item d) (converted of_items (items p (n - 1) r))
  item_read n ts r d some going e = let j = converted_some of_json (p ts) d r e in ap (converted of_items) (items_more p n ts r j.0 some going j.1) ∙ with_item j.0 d j.2 _

  pub items_over : (n : ℕ) (ts r : List Token) → length ts ≤ n → after_end_array ts ≡ Some r → converted of_items (items p n ts) ≡ Some (no_items, r)
  items_over n ts r enough e = ap (converted of_items) (items_end p n ts r enough e)

  pub member_read : (old : Members) (n : ℕ) (k : List ℕ) (ts s r : List Token) (d : Data) → 0 < n → read_key ts ≡ Some (Some k, s) → converted of_json (p s) ≡ Some (d, r)
      → converted (λ ms. of_members ms old) (members p n ts) ≡ converted (λ ms. of_members ms (put k d old)) (members p (n - 1) r)
  member_read old n k ts s r d some key e =
      let j = converted_some of_json (p s) d r e in
      ap (converted (λ ms. of_members ms old)) (members_more p n k ts s r j.0 some key j.1) ∙ with_member k j.0 d old j.2 _

  pub members_over : (old : Members) (n : ℕ) (ts r : List Token) → length ts ≤ n → read_key ts ≡ Some (None, r) → converted (λ ms. of_members ms old) (members p n ts) ≡ Some (old, r)
  members_over old n ts r enough e = ap (converted (λ ms. of_members ms old)) (members_end p n ts r enough e)

pub one_more_item : (f : Items → Items) (d : Data) (r : Option (Items × List Token)) → parse_map f (parse_map (item d) r) ≡ parse_map (λ ds. f (item d ds)) r
one_more_item f d None = refl
one_more_item f d (Some p) = refl

pub none_before : (r : Option (Items × List Token)) → r ≡ parse_map (λ a. a) r
none_before None = refl
none_before (Some p) = refl

abbrev pub whole : Option (json.Json × List Token) → Option Data
whole o = option_and_then of_json (option_and_then (λ p. if_last p.0 p.1) o)

pub whole_read : (o : Option (json.Json × List Token)) (d : Data) → converted of_json o ≡ Some (d, []) → whole o ≡ Some d
whole_read o d e = let j = converted_some of_json o d [] e in ap whole j.1 ∙ j.2

-- ---- numbers

either : (b : Bool) (m x : Num) (o : Option Num) → IsOther (number m) → IsOther (number x) → o ≡ Some x → (n : Num) × (if◌then◌else◌ b (Some m) o ≡ Some n) × IsOther (number n)
either true m x o a b e = (m, refl, a)
either false m x o a b e = (x, e, b)

pub below_zero : (s : List ℕ) (x : Float) → (slice_index s 0 == minus) ≡ true → float_of true (scan (drop 1 s)) ≡ Some (float x) → (n : Num) × (number_of s ≡ Some n) × IsOther (number n)
unfolding number_of
below_zero s x signed near = rw signed (either _ _ (float x) _ tt tt near)

pub is_unsigned : (s : List ℕ) → (slice_index s 0 == minus) ≡ false → IsInteger (scan s) → digits_of (scan s) < 2 ^ 64 → number_of s ≡ Some (unsigned (digits_of (scan s)))
unfolding number_of
is_unsigned s plain is small = rw plain (rw (lt-ltb _ _ is.0, is.1, is.2) (rw (lt-ltb _ _ small)))

no_point : (b : Bool) → not b ≡ true → b ≡ false
no_point true e = sym e
no_point false e = refl

as_integer : (p : Parts) → (is_integer p && nat_lt (digits_of p) (2 ^ 64)) ≡ true → IsInteger p × (digits_of p < 2 ^ 64)
as_integer p e =
    let whole = nat_lt 0 (length p.whole) in
    let plain = not p.point in
    let bare = length p.exponent == 0 in
    let both = and_parts (whole && plain && bare) (nat_lt (digits_of p) (2 ^ 64)) e in
    let first = and_parts (whole && plain) bare both.0 in
    let second = and_parts whole plain first.0 in
    ((ltb-true _ _ second.0, no_point p.point second.1, eqb-true _ _ first.1), ltb-true _ _ both.1)

no_integer : (b : Bool) (m : Num) (o : Option Num) → (b ≡ true → ⊥) → if◌then◌else◌ b (Some m) o ≡ o
no_integer true m o h = absurd (h refl)
no_integer false m o h = refl

pub is_float : (s : List ℕ) (x : Float) → (slice_index s 0 == minus) ≡ false → (IsInteger (scan s) × (digits_of (scan s) < 2 ^ 64) → ⊥) → float_of false (scan s) ≡ Some (float x) → number_of s ≡ Some (float x)
unfolding number_of
is_float s x plain above near = rw plain (no_integer _ _ _ (λ e. above (as_integer (scan s) e)) ∙ near)

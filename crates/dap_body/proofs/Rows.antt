-- What is written of a row of fields is the text of its object, which is sound.
use Rattle.std.proofs.Common.{◌≡◌, ℕ, List, [], ◌∷◌, ◌++◌, ◌∙◌, ap, sym, true, false, Option, Some, None, map, refl, true≢false, append_assoc, IsUtf8}
use Rattle.std.specs.List.{AllByRecursion, flat_map}
use Rattle.std.specs.Ordering.{nat_cmp, match_ordering}
use Rattle.std.specs.Cmp.Lexicographic.{slice_cmp}
use Rattle.std.specs.declared.cmp.Ordering.{Ordering}
use Rattle.std.specs.declared.cmp.Ordering.TheVariants.{Less, Equal, Greater}
use Rattle.std.proofs.lemmas.Bool.{and_parts}
use Rattle.json.specs.Token.{Token, begin_object, end_object, end_array}
use Rattle.json.specs.Tree.{items_tokens, members_tokens}
use Rattle.serde_json.specs.Data.{Data, Members}
use Rattle.serde_json.specs.View.{items_of}
use Rattle.serde_json.specs.Written.{items_outline, members_outline}
use Rattle.dap_json.specs.Sound.{IsSound, AreSound, HasSound, IsBefore}
use Rattle.dap_body.specs.Row.{Row, value_data, is_before, is_in_order, with_member, members_of, object_of}
use Rattle.dap_body.specs.PrivateText.{tokens_of, member_tokens, wrote, wrote_row, IsSoundIfAny, HasSoundFields}

-- ---- text

member-tokens : (key : List ℕ) (o : Option Data) (ms : Members) (ts : List Token) → (ts ++ member_tokens key o) ++ members_tokens (members_outline ms) ≡ ts ++ members_tokens (members_outline (with_member key o ms))
member-tokens key None ms ts = append_assoc ts [] _
member-tokens key (Some d) ms ts = append_assoc ts (member_tokens key (Some d)) _

fields-tokens : (row : Row) (ts : List Token) → wrote_row row ts ++ end_object ∷ [] ≡ ts ++ members_tokens (members_outline (members_of row))
unfolding wrote
fields-tokens [] ts = refl
fields-tokens (field ∷ row) ts = fields-tokens row (wrote field ts) ∙ member-tokens field.0 (value_data field.1) (members_of row) ts

pub object-tokens : (row : Row) (ts : List Token) → wrote_row row (ts ++ begin_object ∷ []) ++ end_object ∷ [] ≡ ts ++ tokens_of (object_of row)
object-tokens row ts = fields-tokens row (ts ++ begin_object ∷ []) ∙ append_assoc ts (begin_object ∷ []) _

pub items-tokens : {A : Type 0} (each : A → Data) (xs : List A) → items_tokens (items_outline (items_of (map each xs))) ≡ flat_map (λ x. tokens_of (each x)) xs ++ end_array ∷ []
items-tokens each [] = refl
items-tokens each (x ∷ xs) = ap (λ ts. tokens_of (each x) ++ ts) (items-tokens each xs) ∙ sym (append_assoc (tokens_of (each x)) _ _)

-- ---- soundness

is-less : (o : Ordering) → match_ordering o true false false ≡ true → o ≡ Less
is-less Less e = refl
is-less Equal e = absurd (true≢false (sym e))
is-less Greater e = absurd (true≢false (sym e))

before-member : (key k : List ℕ) (o : Option Data) (ms : Members) → slice_cmp nat_cmp key k ≡ Less → IsBefore key ms → IsBefore key (with_member k o ms)
before-member key k None ms less h = h
before-member key k (Some d) ms less h = (less, h)

before-fields : (key : List ℕ) (row : Row) → is_before key row ≡ true → IsBefore key (members_of row)
before-fields key [] e = tt
before-fields key (field ∷ row) e =
    let p = and_parts (match_ordering (slice_cmp nat_cmp key field.0) true false false) (is_before key row) e in
    before-member key field.0 (value_data field.1) (members_of row) (is-less _ p.0) (before-fields key row p.1)

member-sound : (key : List ℕ) (o : Option Data) (ms : Members) → IsUtf8 key → IsSoundIfAny o → IsBefore key ms → HasSound ms → HasSound (with_member key o ms)
member-sound key None ms u s b h = h
member-sound key (Some d) ms u s b h = (u, b, s, h)

pub object-sound : (row : Row) → is_in_order row ≡ true → HasSoundFields row → IsSound (object_of row)
object-sound [] e s = tt
object-sound (field ∷ row) e s =
    let p = and_parts (is_before field.0 row) (is_in_order row) e in
    member-sound field.0 (value_data field.1) (members_of row) s.0.0 s.0.1 (before-fields field.0 row p.0) (object-sound row p.1 s.1)

pub items-sound : {A : Type 0} (each : A → Data) (xs : List A) → AllByRecursion (λ x. IsSound (each x)) xs → AreSound (items_of (map each xs))
items-sound each [] h = tt
items-sound each (x ∷ xs) h = (h.0, items-sound each xs h.1)

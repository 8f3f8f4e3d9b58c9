-- Sound data without floats is read again from its compact text.
use Rattle.std.proofs.Common.{◌≡◌, ℕ, ◌≤◌, pos, negsuc, List, [], ◌∷◌, Bool, true, false, IsUtf8, Greater, Some, option_map, option_and_then, nat_cmp, refl, sym, ap, ◌∙◌, arith, append-nil, true≢false}
use Rattle.std.proofs.lemmas.Bool.{or_parts}
use Rattle.std.proofs.lemmas.Cmp.{nat_list_cmp_total}
use Rattle.std.proofs.lemmas.Str.{IsUtf8-append, IsUtf8-nil, IsUtf8-from_ascii, is_utf8-from_IsUtf8}
use Rattle.std.proofs.lemmas.Fmt.{IsAscii-decimal, IsAscii-signed}
use Rattle.std.specs.Cmp.Lexicographic.{slice_cmp}
use Rattle.std.specs.Ordering.{ordering_reverse}
use Rattle.std.specs.Prelude.{⊤}
use Rattle.json.specs.Json as json
use Rattle.json.specs.Tree as tree
use Rattle.json.specs.Tree.{json_tokens, HasNumbers, ItemsHaveNumbers, MembersHaveNumbers}
use Rattle.json.proofs.Printed.Decimals.{IsNumber-decimal, IsNumber-signed_decimal}
use Rattle.json.proofs.Printed.Tokens.{tokens-print}
use Rattle.json.proofs.Printed.Trees.{value-json_tokens, ArePrintable-json_tokens}
use Rattle.json.proofs.Printed.Utf8.{IsUtf8-are_ascii, IsUtf8-quoted, IsUtf8-boolean}
use Rattle.serde_json.specs.Data.{Num, unsigned, negative, float, Data, null, boolean, number, string, array, object, Items, no_items, item, Members, no_members, member, put, depth, items_depth, members_depth}
use Rattle.serde_json.specs.Read.{read, of_json, of_items, of_members, max_depth}
use Rattle.serde_json.specs.Written.{outline, items_outline, members_outline, has_float, items_have_float, members_have_float, number_text, comma_if, compact_text, items_text, members_text}
use Rattle.serde_json.proofs.Numbers.{number_of-decimal, number_of-negative}
use Rattle.serde_json.proofs.Texts.{print-outline}
use Rattle.dap_json.specs.Sound.{IsSound, AreSound, HasSound, IsBefore}
use Rattle.dap_json.specs.Read.{json_of, IsReadAgain}

-- ---- members one after another

abbrev joined : Members → Members → Members
joined no_members ms = ms
joined (member k d ls) ms = member k d (joined ls ms)

abbrev AreBefore : Members → Members → Type 0
AreBefore no_members ms = ⊤
AreBefore (member k d ls) ms = IsBefore k ms × AreBefore ls ms

put_last : (k : List ℕ) (d : Data) (found ms : Members) → AreBefore found (member k d ms) → put k d found ≡ joined found (member k d no_members)
put_last k d no_members ms h = refl
put_last k d (member l e found) ms h =
    let above : slice_cmp nat_cmp k l ≡ Greater = nat_list_cmp_total.antisymm k l ∙ ap ordering_reverse h.0.0 in
    rw above (ap (member l e) (put_last k d found ms h.1))

one_more : (k : List ℕ) (d : Data) (found ms : Members) → AreBefore found (member k d ms) → IsBefore k ms → AreBefore (joined found (member k d no_members)) ms
one_more k d no_members ms h b = (b, tt)
one_more k d (member l e found) ms h b = (h.0.1, one_more k d found ms h.1 b)

joined_more : (k : List ℕ) (d : Data) (found ms : Members) → joined (joined found (member k d no_members)) ms ≡ joined found (member k d ms)
joined_more k d no_members ms = refl
joined_more k d (member l e found) ms = ap (member l e) (joined_more k d found ms)

joined_none : (found : Members) → joined found no_members ≡ found
joined_none no_members = refl
joined_none (member l e found) = ap (member l e) (joined_none found)

-- ---- from its outline

again_number : (n : Num) → IsSound (number n) → has_float (number n) ≡ false → of_json (outline (number n)) ≡ Some (number n)
again_number (unsigned n) h f = ap (option_map number) (number_of-decimal n h)
again_number (negative (pos n)) h f = absurd h
again_number (negative (negsuc n)) h f = ap (option_map number) (number_of-negative n h)
again_number (float x) h f = absurd (true≢false f)

mutual
  again : (d : Data) → IsSound d → has_float d ≡ false → of_json (outline d) ≡ Some d
  again null h f = refl
  again (boolean b) h f = refl
  again (number n) h f = again_number n h f
  again (string s) h f = refl
  again (array ds) h f = ap (option_map array) (items_again ds h f)
  again (object ms) h f = ap (option_map object) (members_again ms no_members h f tt)

  items_again : (ds : Items) → AreSound ds → items_have_float ds ≡ false → of_items (items_outline ds) ≡ Some ds
  items_again no_items h f = refl
  items_again (item d ds) h f =
      let p = or_parts (has_float d) _ f in
      ap (option_and_then (λ e. option_map (item e) (of_items (items_outline ds)))) (again d h.0 p.0) ∙ ap (option_map (item d)) (items_again ds h.1 p.1)

  members_again : (ms found : Members) → HasSound ms → members_have_float ms ≡ false → AreBefore found ms → of_members (members_outline ms) found ≡ Some (joined found ms)
  members_again no_members found h f b = ap Some (sym (joined_none found))
  members_again (member k d ms) found h f b =
      let p = or_parts (has_float d) _ f in
      ap (option_and_then (λ e. of_members (members_outline ms) (put k e found))) (again d h.2 p.0) ∙ ap (of_members (members_outline ms)) (put_last k d found ms b)
      ∙ members_again ms (joined found (member k d no_members)) h.3 p.1 (one_more k d found ms b h.1) ∙ ap Some (joined_more k d found ms)

-- ---- its numbers and its depth

number_is : (n : Num) → IsSound (number n) → has_float (number n) ≡ false → HasNumbers (outline (number n))
number_is (unsigned n) h f = IsNumber-decimal n h
number_is (negative (pos n)) h f = absurd h
number_is (negative (negsuc n)) h f = IsNumber-signed_decimal (negsuc n) h
number_is (float x) h f = absurd (true≢false f)

mutual
  numbers : (d : Data) → IsSound d → has_float d ≡ false → HasNumbers (outline d)
  numbers null h f = tt
  numbers (boolean b) h f = tt
  numbers (number n) h f = number_is n h f
  numbers (string s) h f = tt
  numbers (array ds) h f = items_numbers ds h f
  numbers (object ms) h f = members_numbers ms h f

  items_numbers : (ds : Items) → AreSound ds → items_have_float ds ≡ false → ItemsHaveNumbers (items_outline ds)
  items_numbers no_items h f = tt
  items_numbers (item d ds) h f = let p = or_parts (has_float d) _ f in (numbers d h.0 p.0, items_numbers ds h.1 p.1)

  members_numbers : (ms : Members) → HasSound ms → members_have_float ms ≡ false → MembersHaveNumbers (members_outline ms)
  members_numbers no_members h f = tt
  members_numbers (member k d ms) h f = let p = or_parts (has_float d) _ f in (numbers d h.2 p.0, members_numbers ms h.3 p.1)

mutual
  depth-outline : (d : Data) → tree.depth (outline d) ≡ depth d
  depth-outline null = refl
  depth-outline (boolean b) = refl
  depth-outline (number n) = refl
  depth-outline (string s) = refl
  depth-outline (array ds) = omega (arith, items_depth-outline ds)
  depth-outline (object ms) = omega (arith, members_depth-outline ms)

  items_depth-outline : (ds : Items) → tree.items_depth (items_outline ds) ≡ items_depth ds
  items_depth-outline no_items = refl
  items_depth-outline (item d ds) = omega (arith, depth-outline d, items_depth-outline ds)

  members_depth-outline : (ms : Members) → tree.members_depth (members_outline ms) ≡ members_depth ms
  members_depth-outline no_members = refl
  members_depth-outline (member k d ms) = omega (arith, depth-outline d, members_depth-outline ms)

read-compact_text : (d : Data) → IsSound d → has_float d ≡ false → depth d ≤ max_depth → read (compact_text d) ≡ Some d
read-compact_text d h f shallow =
    let o = outline d in
    let printed = tokens-print (json_tokens o) (ArePrintable-json_tokens o (numbers d h f)) ∙ sym (append-nil (json_tokens o)) in
    let parsed = ap (json.value max_depth) printed ∙ value-json_tokens o max_depth [] (omega (arith, depth-outline d)) in
    ap read (sym (print-outline d)) ∙ ap (λ p. option_and_then of_json (option_and_then (λ q. json.if_last q.0 q.1) p)) parsed ∙ again d h f

-- ---- its text is UTF-8

ascii : (x : ℕ) (xs : List ℕ) → IsUtf8 (x ∷ []) → IsUtf8 xs → IsUtf8 (x ∷ xs)
ascii x xs one rest = IsUtf8-append (x ∷ []) xs one rest

comma : (later : Bool) → IsUtf8 (comma_if later)
comma true = IsUtf8-are_ascii (44 ∷ []) refl
comma false = IsUtf8-nil

number_utf8 : (n : Num) → IsSound (number n) → IsUtf8 (number_text n)
number_utf8 (unsigned n) h = IsUtf8-from_ascii _ (IsAscii-decimal n h)
number_utf8 (negative (pos n)) h = absurd h
number_utf8 (negative (negsuc n)) h = IsUtf8-from_ascii _ (IsAscii-signed (negsuc n) h)
number_utf8 (float x) h = IsUtf8-nil

mutual
  utf8 : (d : Data) → IsSound d → IsUtf8 (compact_text d)
  utf8 null h = IsUtf8-are_ascii _ refl
  utf8 (boolean b) h = IsUtf8-boolean b
  utf8 (number n) h = number_utf8 n h
  utf8 (string s) h = IsUtf8-quoted s h
  utf8 (array ds) h = ascii 91 _ (IsUtf8-are_ascii (91 ∷ []) refl) (items_utf8 false ds h)
  utf8 (object ms) h = ascii 123 _ (IsUtf8-are_ascii (123 ∷ []) refl) (members_utf8 false ms h)

  items_utf8 : (later : Bool) (ds : Items) → AreSound ds → IsUtf8 (items_text later ds)
  items_utf8 later no_items h = IsUtf8-are_ascii (93 ∷ []) refl
  items_utf8 later (item d ds) h = IsUtf8-append _ _ (comma later) (IsUtf8-append _ _ (utf8 d h.0) (items_utf8 true ds h.1))

  members_utf8 : (later : Bool) (ms : Members) → HasSound ms → IsUtf8 (members_text later ms)
  members_utf8 later no_members h = IsUtf8-are_ascii (125 ∷ []) refl
  members_utf8 later (member k d ms) h =
      IsUtf8-append _ _ (comma later)
      (IsUtf8-append _ _ (IsUtf8-quoted k h.0) (ascii 58 _ (IsUtf8-are_ascii (58 ∷ []) refl) (IsUtf8-append _ _ (utf8 d h.2) (members_utf8 true ms h.3))))

pub read_again : IsReadAgain
unfolding json_of
read_again d h f shallow = rw (is_utf8-from_IsUtf8 _ (utf8 d h)) (read-compact_text d h f shallow)

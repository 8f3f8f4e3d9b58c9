use Rattle.std.proofs.Common.{◌≡◌, ◌-◌, ◌<◌, ◌∷◌, length, Some, None, refl, ap, ◌∙◌, arith}
use Rattle.json.specs.Token.{Token}
use Rattle.json.specs.Json.{parse_map, after_end_array, read_key, items, members, value}
use Rattle.json.specs.Reads.{token_of}
use Rattle.json.proofs.Grammar.{value_is, value-begin_array, value-begin_object, read_key-shorter}
use Rattle.serde_json.specs.Data.{null, boolean, number, string, array, object, no_items, item, no_members, put}
use Rattle.serde_json.specs.Read.{of_json, converted}
use Rattle.dap_json.proofs.ObjectReaderLemmas.{converted-array, converted-object, item_read, items_over, member_read, members_over, one_more_item, none_before}
use Rattle.dap_json.proofs.object_reader.+object_reader.Goals as goal

pub items-items-init : goal.items-items-init
items-items-init t c = (length c.args.reader.now, omega arith, (λ a. a, none_before _), omega arith)

pub items-items-preserved : goal.items-items-preserved
items-items-preserved t c =
    let p = value c.args.depth in
    let l = c.items in
    let n = l.invariant.0 in
    let f = l.invariant.2.0 in
    let going : (after_end_array l.reader ≡ None) × (c.take_end_array.new.self ≡ l.reader) = grind arith in
    let done = c.in_ok-value.ensures in
    let d = done.ok.0 in
    let r = c.value.new.reader in
    let less : length r < length l.reader = rw (← going.1) done.shorter in
    let turn = item_read p n l.reader r d (omega (arith, l.invariant.1)) going.0 (rw (← going.1) done.ok.1) in (
      n - 1,
      omega (arith, l.invariant.1),
      (λ ds. f (item d ds), l.invariant.2.1 ∙ ap (parse_map f) turn ∙ one_more_item f d _),
      omega (arith, l.invariant.3),
    )

pub items-returns-clause-ok : goal.items-returns-clause-ok
items-returns-clause-ok t c =
    let p = value c.args.depth in
    let l = c.items in
    let n = l.invariant.0 in
    let f = l.invariant.2.0 in
    let r = c.take_end_array.new.self in
    (f no_items, l.invariant.2.1 ∙ ap (parse_map f) (items_over p n l.reader r l.invariant.1 (grind arith)))

pub members-members-init : goal.members-members-init
members-members-init t c = (length c.args.reader.now, omega arith, (no_members, refl), omega arith)

pub members-members-preserved : goal.members-members-preserved
members-members-preserved t c =
    let p = value c.args.depth in
    let l = c.members in
    let n = l.invariant.0 in
    let old = l.invariant.2.0 in
    let k = c.in-Some.field-0.now in
    let s = c.next_key.new.self in
    let named : read_key l.reader ≡ Some (Some k, s) = grind arith in
    let done = c.in_ok-value.ensures in
    let d = done.ok.0 in
    let r = c.value.new.reader in
    let less = read_key-shorter l.reader (Some k) s named in
    let lesser = done.shorter in (
      n - 1,
      omega (arith, l.invariant.1),
      (put k d old, l.invariant.2.1 ∙ member_read p old n k l.reader s r d (omega (arith, l.invariant.1)) named done.ok.1),
      omega (arith, l.invariant.3),
    )

pub members-returns-clause-ok : goal.members-returns-clause-ok
members-returns-clause-ok t c =
    let p = value c.args.depth in
    let l = c.members in
    let n = l.invariant.0 in
    let old = l.invariant.2.0 in
    (old, l.invariant.2.1 ∙ members_over p old n l.reader c.next_key.new.self l.invariant.1 (grind arith))

pub value-returns-in-String-clause-ok : goal.value-returns-in-String-clause-ok
value-returns-in-String-clause-ok t c =
    let first : c.args.reader.now ≡ token_of c.in_ok-text.field-0 ∷ c.next.new.self = grind arith in
    let is : c.args.reader.now ≡ Token.string c.in-String.text.now ∷ c.next.new.self = grind (arith, first) in
    (string c.in-String.text.now, ap (converted of_json) (ap (value c.args.depth) is ∙ value_is c.args.depth _), refl)

pub value-returns-in_ok-number-in-Number-clause-ok : goal.value-returns-in_ok-number-in-Number-clause-ok
value-returns-in_ok-number-in-Number-clause-ok t c =
    let first : c.args.reader.now ≡ token_of c.in_ok-text.field-0 ∷ c.next.new.self = grind arith in
    let is : c.args.reader.now ≡ Token.number c.in-Number.text.now ∷ c.next.new.self = grind (arith, first) in
    let done = c.in_ok-number-in-Number.ensures in
    (number done.0, ap (converted of_json) (ap (value c.args.depth) is ∙ value_is c.args.depth _) ∙ rw done.1 refl, done.2)

pub value-returns-in-Bool-clause-ok : goal.value-returns-in-Bool-clause-ok
value-returns-in-Bool-clause-ok t c =
    let first : c.args.reader.now ≡ token_of c.in_ok-text.field-0 ∷ c.next.new.self = grind arith in
    let is : c.args.reader.now ≡ Token.boolean c.in-Bool.b ∷ c.next.new.self = grind (arith, first) in
    (boolean c.in-Bool.b, ap (converted of_json) (ap (value c.args.depth) is ∙ value_is c.args.depth _), refl)

pub value-returns-in-Null-clause-ok : goal.value-returns-in-Null-clause-ok
value-returns-in-Null-clause-ok t c =
    let first : c.args.reader.now ≡ token_of c.in_ok-text.field-0 ∷ c.next.new.self = grind arith in
    let is : c.args.reader.now ≡ Token.null ∷ c.next.new.self = grind (arith, first) in
    (null, ap (converted of_json) (ap (value c.args.depth) is ∙ value_is c.args.depth _), refl)

pub value-returns-in_ok-items-in-BeginArray-clause-ok : goal.value-returns-in_ok-items-in-BeginArray-clause-ok
value-returns-in_ok-items-in-BeginArray-clause-ok t c =
    let first : c.args.reader.now ≡ token_of c.in_ok-text.field-0 ∷ c.next.new.self = grind arith in
    let opened = ap (converted of_json) (ap (value c.args.depth) (first ∙ ap (λ k. token_of k ∷ c.next.new.self) c.in-BeginArray.is) ∙ value-begin_array c.args.depth c.next.new.self (omega arith)) ∙ converted-array (items (value (c.args.depth - 1)) (length c.next.new.self) c.next.new.self) in
    let done = c.in_ok-items-in-BeginArray.ensures.ok in
    (array done.0, opened ∙ ap (parse_map array) done.1, tt)

pub value-returns-in_ok-members-in-BeginObject-clause-ok : goal.value-returns-in_ok-members-in-BeginObject-clause-ok
value-returns-in_ok-members-in-BeginObject-clause-ok t c =
    let first : c.args.reader.now ≡ token_of c.in_ok-text.field-0 ∷ c.next.new.self = grind arith in
    let opened = ap (converted of_json) (ap (value c.args.depth) (first ∙ ap (λ k. token_of k ∷ c.next.new.self) c.in-BeginObject.is) ∙ value-begin_object c.args.depth c.next.new.self (omega arith)) ∙ converted-object (members (value (c.args.depth - 1)) (length c.next.new.self) c.next.new.self) in
    let done = c.in_ok-members-in-BeginObject.ensures.ok in
    (object done.0, opened ∙ ap (parse_map object) done.1, tt)

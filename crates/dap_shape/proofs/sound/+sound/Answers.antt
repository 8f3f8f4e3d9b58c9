use Rattle.std.proofs.Common.{◌≡◌, ◌-◌, ◌+◌, ◌<◌, ◌∷◌, length, Some, None, true, false, bytes_eq, refl, sym, ap, ◌∙◌, subst, arith, true≢false}
use Rattle.std.specs.Prelude.{map, not, set}
use Rattle.json.specs.Token.{Token}
use Rattle.json.specs.Json.{parse_map, after_end_array, read_key, items, members, value}
use Rattle.json.specs.Reads.{token_of}
use Rattle.json.proofs.Grammar.{value_is, value-begin_array, value-begin_object, read_key-shorter}
use Rattle.serde_json.specs.Data.{null, array, object, no_items, item, no_members, put}
use Rattle.serde_json.specs.Read.{of_json, converted}
use Rattle.dap_json.specs.Field.{is_null}
use Rattle.dap_json.proofs.InsideLemmas.{noted_here, noted_before}
use Rattle.dap_json.proofs.ObjectReaderLemmas.{converted-array, converted-object, item_read, items_over, member_read, members_over, one_more_item, none_before}
use Rattle.dap_shape.specs.Faults.{rows_fault}
use Rattle.dap_shape.specs.Rows.{fields_of}
use Rattle.dap_shape.specs.Seen.{row_seen}
use Rattle.dap_shape.specs.PrivateSound.{AreFew, AreKept}
use Rattle.dap_shape.proofs.FewRows.{rows_are_few}
use Rattle.dap_shape.proofs.ShapeLemmas.{found_in, fault_of-object}
use Rattle.dap_shape.proofs.SoundLemmas.{kept_others, kept_more, no_row, place_below, none_kept, all_kept, more_items, if_ok}
use Rattle.dap_shape.proofs.sound.+sound.Goals as goal

pub items-items-init : goal.items-items-init
items-items-init t c = (length c.args.reader.now, omega arith, (λ a. a, none_before _, (0, λ ds is. is)), omega arith)

pub items-items-preserved : goal.items-items-preserved
items-items-preserved t c =
    let p = value c.args.depth in
    let l = c.items in
    let n = l.invariant.0 in
    let f = l.invariant.2.0 in
    let k = l.invariant.2.2.0 in
    let going : (after_end_array l.reader ≡ None) × (c.take_end_array.new.self ≡ l.reader) = grind arith in
    let done = c.in_ok-passed.ensures in
    let d = done.ok.0 in
    let r = c.value.new.reader in
    let less : length r < length l.reader = rw (← going.1) done.shorter in
    let turn = item_read p n l.reader r d (omega (arith, l.invariant.1)) going.0 (rw (← going.1) done.ok.1) in
    let here : is_null d ≡ false = sym (c.is_null.ensures d done.ok.2) ∙ c.if-is_null.false in (
      n - 1,
      omega (arith, l.invariant.1),
      (λ ds. f (item d ds), l.invariant.2.1 ∙ ap (parse_map f) turn ∙ one_more_item f d _, (k + 1, λ ds is. l.invariant.2.2.1 (item d ds) (more_items k c.args.kind d ds (done.ok.3 here) is))),
      omega (arith, l.invariant.3),
    )

pub items-returns-clause-ok : goal.items-returns-clause-ok
items-returns-clause-ok t c =
    let p = value c.args.depth in
    let l = c.items in
    let n = l.invariant.0 in
    let f = l.invariant.2.0 in
    let r = c.take_end_array.new.self in
    (f no_items, l.invariant.2.1 ∙ ap (parse_map f) (items_over p n l.reader r l.invariant.1 (grind arith)), l.invariant.2.2.1 no_items refl)

pub list-returns-in-Null-clause-ok : goal.list-returns-in-Null-clause-ok
list-returns-in-Null-clause-ok t c =
    let first : c.args.reader.now ≡ token_of c.in_ok-ok_or.field-0 ∷ c.next.new.self = grind arith in
    let is : c.args.reader.now ≡ Token.null ∷ c.next.new.self = grind (arith, first) in
    (null, ap (converted of_json) (ap (value c.args.depth) is ∙ value_is c.args.depth _), refl, λ none. absurd (true≢false none))

pub list-returns-in_ok-items-in-BeginArray-clause-ok : goal.list-returns-in_ok-items-in-BeginArray-clause-ok
list-returns-in_ok-items-in-BeginArray-clause-ok t c =
    let first : c.args.reader.now ≡ token_of c.in_ok-ok_or.field-0 ∷ c.next.new.self = grind arith in
    let opened = ap (converted of_json) (ap (value c.args.depth) (first ∙ ap (λ k. token_of k ∷ c.next.new.self) c.in-BeginArray.is) ∙ value-begin_array c.args.depth c.next.new.self (omega arith)) ∙ converted-array (items (value (c.args.depth - 1)) (length c.next.new.self) c.next.new.self) in
    let done = c.in_ok-items-in-BeginArray.ensures.ok in
    (array done.0, opened ∙ ap (parse_map array) done.1, tt, λ some. done.2)

pub object-returns-in-Null-clause-ok : goal.object-returns-in-Null-clause-ok
object-returns-in-Null-clause-ok t c =
    let first : c.args.reader.now ≡ token_of c.in_ok-ok_or.field-0 ∷ c.next.new.self = grind arith in
    let is : c.args.reader.now ≡ Token.null ∷ c.next.new.self = grind (arith, first) in
    (null, ap (converted of_json) (ap (value c.args.depth) is ∙ value_is c.args.depth _), refl, λ none. absurd (true≢false none))

pub object-members-requires : goal.object-members-requires
object-members-requires t c = (omega arith, subst AreFew (sym c.fields.ensures) (rows_are_few c.args.name))

pub object-returns-in_ok-members-in-BeginObject-clause-ok : goal.object-returns-in_ok-members-in-BeginObject-clause-ok
object-returns-in_ok-members-in-BeginObject-clause-ok t c =
    let first : c.args.reader.now ≡ token_of c.in_ok-ok_or.field-0 ∷ c.next.new.self = grind arith in
    let opened = ap (converted of_json) (ap (value c.args.depth) (first ∙ ap (λ k. token_of k ∷ c.next.new.self) c.in-BeginObject.is) ∙ value-begin_object c.args.depth c.next.new.self (omega arith)) ∙ converted-object (members (value (c.args.depth - 1)) (length c.next.new.self) c.next.new.self) in
    let done = c.in_ok-members-in-BeginObject.ensures.ok in
    let sound : rows_fault (found_in (object done.0)) (fields_of c.args.name) ≡ None = subst (λ rows. rows_fault (found_in (object done.0)) rows ≡ None) c.fields.ensures done.2 in
    (object done.0, opened ∙ ap (parse_map object) done.1, tt, λ some. sym (fault_of-object c.args.name (object done.0) refl) ∙ sound)

pub member-bounds-seen-place : goal.member-bounds-seen-place
member-bounds-seen-place t c =
    let below = place_below (map row_seen c.args.rows.now) c.args.name.now c.in-Some.place (row_seen c.in-Some.row) (sym c.in-Some.ensures) in
    omega (arith, below, c.requires.1.1.few)

pub member-returns-in-None-clause-ok : goal.member-returns-in-None-clause-ok
member-returns-in-None-clause-ok t c =
    if_ok c.value.result _ _ (λ passed so. (so.0, so.1, so.2, λ found kept. kept_others found (map row_seen c.args.rows.now) c.args.seen.now c.args.name.now so.0 (no_row (map row_seen c.args.rows.now) c.args.name.now (sym c.in-None.ensures)) kept)) c.value.ensures.ok

pub member-returns-in_ok-passed-in-Some-clause-ok : goal.member-returns-in_ok-passed-in-Some-clause-ok
member-returns-in_ok-passed-in-Some-clause-ok t c =
    let done = c.in_ok-passed-in-Some.ensures.ok in
    let d = done.0 in
    let rows = map row_seen c.args.rows.now in (
      d,
      done.1,
      done.2,
      λ found kept.
          subst (λ b. AreKept (put c.args.name.now d found) rows (set c.args.seen.now c.in-Some.place (not b))) (sym (c.is_null.ensures d done.2))
          (kept_more found rows c.args.seen.now c.args.name.now d c.in-Some.place (row_seen c.in-Some.row) c.requires.1.1.apart (sym c.in-Some.ensures) (λ some. rw (← c.shape.ensures) (done.3 some)) kept),
    )

pub members-members-init : goal.members-members-init
members-members-init t c = let few : AreFew (map row_seen c.args.rows.now) = c.requires.1.1 in (length c.args.reader.now, omega arith, (no_members, refl, none_kept (map row_seen c.args.rows.now) 40 few.few, refl), omega arith)

pub members-members-preserved-then-eq : goal.members-members-preserved-then-eq
members-members-preserved-then-eq t c =
    let p = value c.args.depth in
    let l = c.members in
    let n = l.invariant.0 in
    let old = l.invariant.2.0 in
    let k = c.in-Some.name.now in
    let s = c.next_key.new.self in
    let named : read_key l.reader ≡ Some (Some k, s) = grind arith in
    let done = c.in_ok-passed.ensures in
    let d = done.ok.0 in
    let r = c.member.new.reader in
    let less = read_key-shorter l.reader (Some k) s named in
    let lesser = done.shorter in
    let same : bytes_eq k c.args.key.now ≡ true = grind arith in (
      n - 1,
      omega (arith, l.invariant.1),
      (put k d old, l.invariant.2.1 ∙ member_read p old n k l.reader s r d (omega (arith, l.invariant.1)) named done.ok.1, done.ok.3 old l.invariant.2.2, c.whole-found.ensures d done.ok.2 ∙ noted_here c.args.key.now k d old same),
      omega (arith, l.invariant.3),
    )

pub members-members-preserved : goal.members-members-preserved
members-members-preserved t c =
    let p = value c.args.depth in
    let l = c.members in
    let n = l.invariant.0 in
    let old = l.invariant.2.0 in
    let k = c.in-Some.name.now in
    let s = c.next_key.new.self in
    let named : read_key l.reader ≡ Some (Some k, s) = grind arith in
    let done = c.in_ok-passed.ensures in
    let d = done.ok.0 in
    let r = c.member.new.reader in
    let less = read_key-shorter l.reader (Some k) s named in
    let lesser = done.shorter in
    let apart : bytes_eq k c.args.key.now ≡ false = grind arith in (
      n - 1,
      omega (arith, l.invariant.1),
      (put k d old, l.invariant.2.1 ∙ member_read p old n k l.reader s r d (omega (arith, l.invariant.1)) named done.ok.1, done.ok.3 old l.invariant.2.2, noted_before c.args.key.now k d old l.found apart l.invariant.2.3),
      omega (arith, l.invariant.3),
    )

pub members-returns-clause-ok : goal.members-returns-clause-ok
members-returns-clause-ok t c =
    let p = value c.args.depth in
    let l = c.members in
    let n = l.invariant.0 in
    let old = l.invariant.2.0 in (
      old,
      l.invariant.2.1 ∙ members_over p old n l.reader c.next_key.new.self l.invariant.1 (grind arith),
      all_kept old (map row_seen c.args.rows.now) l.seen l.invariant.2.2 (sym c.lacks.ensures ∙ c.if-lacks.false),
      l.invariant.2.3,
    )

-- What stands beside, where nothing was refused, can.
use Rattle.std.proofs.Common.{◌≡◌, ℕ, suc, ◌≤◌, ◌&&◌, ◌||◌, List, [], ◌∷◌, map, Bool, true, false, not, nat_le, Option, Some, None, is_some, if◌then◌else◌, refl, sym, true≢false, arith}
use Rattle.std.proofs.lemmas.Bool.{leb-true, and_parts}
use Rattle.serde_json.specs.Data.{Data, boolean, object, Members, no_members, member, put, depth, members_depth}
use Rattle.serde_json.specs.Find.{as_bool}
use Rattle.serde_json.specs.Written.{has_float, members_have_float}
use Rattle.dap_json.specs.More.{more_of, more_nesting, members_in}
use Rattle.dap_json.specs.Writable.{is_writable}
use Rattle.dap_json.proofs.PlainPut.{put_float, put_depth}
use Rattle.dap_command.specs.Offer.{is_among, served_flags, unserved_flags, reference_keys, is_said, is_refused, refused_key, with_others, with_flag_of, with_flags, beside_gates, value_nesting}
use Rattle.dap_command.specs.Opening.{further_rows, is_offered}
use Rattle.dap_command.specs.declared.opening.Opened.{Opened}

-- no float, and no deeper than what may be at a key
record ArePlain (ms : Members) : Type 0 where
  no_float : members_have_float ms ≡ false
  flat : members_depth ms ≤ 99

no : (b : Bool) → not b ≡ true → b ≡ false
no false e = refl
no true e = absurd (true≢false (sym e))

right-false : (a b : Bool) → (a || not b) ≡ false → b ≡ true
right-false false true e = refl
right-false false false e = absurd (true≢false e)
right-false true b e = absurd (true≢false e)

-- of what is not refused and no flag of a command
passes : (s u r w b t : Bool) → (if s then b else if u then t else (r || not w)) ≡ false → (s || u) ≡ false → w ≡ true
passes true u r w b t e o = absurd (true≢false o)
passes false true r w b t e o = absurd (true≢false o)
passes false false r w b t e o = right-false r w e

put-plain : (key : List ℕ) (d : Data) (ms : Members) → is_writable value_nesting d ≡ true → ArePlain ms → ArePlain (put key d ms)
put-plain key d ms w p =
    let parts = and_parts (not (has_float d)) (nat_le (depth d) 99) w in
    record { no_float = put_float key d ms (no (has_float d) parts.0) p.no_float; flat = put_depth key d ms (leb-true (depth d) 99 parts.1) p.flat }

choose : (b : Bool) (key : List ℕ) (d : Data) (kept : Members) → (b ≡ false → is_writable value_nesting d ≡ true) → ArePlain kept → ArePlain (if b then kept else put key d kept)
choose true key d kept w p = p
choose false key d kept w p = put-plain key d kept (w refl) p

first-passes : (b : Bool) (key : List ℕ) (rest : Option (List ℕ)) → (if b then Some key else rest) ≡ None → (b ≡ false) × (rest ≡ None)
first-passes false key rest e = (refl, e)
first-passes true key rest e = absurd cc

others-plain : (opened : List Opened) (kept ms : Members) → refused_key opened ms ≡ None → ArePlain kept → ArePlain (with_others kept ms)
others-plain opened kept no_members e p = p
others-plain opened kept (member key d ms) e p =
    let parts = first-passes (is_refused opened key d) key (refused_key opened ms) e in
    others-plain opened (if is_among key served_flags || is_among key unserved_flags then kept else put key d kept) ms parts.1
    (choose (is_among key served_flags || is_among key unserved_flags) key d kept (passes (is_among key served_flags) (is_among key unserved_flags) (is_among key reference_keys) (is_writable value_nesting d) (not (is_some (as_bool d))) (not (is_said (is_offered opened key) d)) parts.0) p)

fits-by : (float : Bool) (n : ℕ) → float ≡ false → n ≤ 99 → (not float && nat_le (suc n) 100) ≡ true
fits-by true n f h = absurd (true≢false f)
fits-by false n f h = grind arith

some-if : (b : Bool) (ms : Members) → b ≡ true → (if b then Some (members_in ms) else None) ≡ Some (members_in ms)
some-if true ms e = refl
some-if false ms e = absurd (true≢false (sym e))

flag-plain : (on : Bool) (flag : List ℕ) (ms : Members) → ArePlain ms → ArePlain (if on then put flag (boolean true) ms else ms)
flag-plain true flag ms p = put-plain flag (boolean true) ms refl p
flag-plain false flag ms p = p

flags-plain : (flags : List (List ℕ)) (opened : List Opened) (ms : Members) → ArePlain ms → ArePlain (with_flags flags opened ms)
flags-plain [] opened ms p = p
flags-plain (flag ∷ flags) opened ms p = flags-plain flags opened (with_flag_of opened flag ms) (flag-plain (is_offered opened flag) flag ms p)

pub what_stands_beside_can : (opened : List Opened) (ms : Members) → refused_key opened ms ≡ None → more_of (object (beside_gates opened ms)) ≡ Some (members_in (beside_gates opened ms))
what_stands_beside_can opened ms e =
    let p = flags-plain (map (λ r. r.flag) further_rows) opened (with_others no_members ms) (others-plain opened no_members ms e (record { no_float = refl; flat = omega arith })) in
    let kept = beside_gates opened ms in
    some-if (is_writable more_nesting (object kept)) kept (fits-by (members_have_float kept) (members_depth kept) p.no_float p.flat)

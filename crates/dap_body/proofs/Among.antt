-- A row's own fields among members: what there is at each key, and the order of keys.
use Rattle.std.proofs.Common.{◌≡◌, ℕ, List, [], ◌∷◌, ◌++◌, ◌||◌, Bool, true, false, Option, Some, None, refl, sym, ap, ◌∙◌, subst, true≢false}
use Rattle.std.proofs.lemmas.Bool.{and_parts}
use Rattle.std.proofs.lemmas.Cmp.{nat_list_cmp_total}
use Rattle.std.specs.Ordering.{nat_cmp, match_ordering, ordering_reverse}
use Rattle.std.specs.Cmp.Lexicographic.{slice_cmp}
use Rattle.std.specs.declared.cmp.Ordering.{Ordering}
use Rattle.std.specs.declared.cmp.Ordering.TheVariants.{Less, Equal, Greater}
use Rattle.serde_json.specs.Data.{Data, Members}
use Rattle.serde_json.specs.Find.{get_member}
use Rattle.dap_json.specs.More.{members_of as more_members, is_before_each, are_in_order}
use Rattle.dap_json.specs.declared.more.Member.{Member}
use Rattle.dap_body.specs.Beside.{field_of, fields_of, before_key, after_key, among}
use Rattle.dap_body.specs.BesideLaws.{is_own}
use Rattle.dap_body.specs.Row.{Field, Row, value_data, is_before, is_in_order, with_member, members_of}

abbrev pub cmp : List ℕ → List ℕ → Ordering
cmp k l = slice_cmp nat_cmp k l

abbrev less : Ordering → Bool
less o = match_ordering o true false false

abbrev pub same : Ordering → Bool
same o = match_ordering o false true false

is_less : (o : Ordering) → less o ≡ true → o ≡ Less
is_less Less e = refl
is_less Equal e = absurd (true≢false (sym e))
is_less Greater e = absurd (true≢false (sym e))

-- of two keys of which the first stands behind, the second stands before
turned : (k l : List ℕ) → cmp k l ≡ Greater → cmp l k ≡ Less
turned k l is = nat_list_cmp_total.antisymm l k ∙ ap ordering_reverse is

-- ---- with none

pub among-none : (row : Row) → among row [] ≡ row
among-none [] = refl
among-none (f ∷ row) = ap (λ r. f ∷ r) (among-none row)

-- ---- where a key comes

-- what the first of the members makes of the rest
abbrev pub placed : Field → Row → Member → List Member → Ordering → Row
placed f row m ms o = match_ordering o (field_of m ∷ among (f ∷ row) ms) (among (f ∷ row) ms) (f ∷ among row (m ∷ ms))

among-by : (f : Field) (row : Row) (m : Member) (ms : List Member) (o : Ordering)
    → fields_of (match_ordering o (m ∷ before_key f.0 ms) (before_key f.0 ms) []) ++ f ∷ among row (match_ordering o (after_key f.0 ms) (after_key f.0 ms) (m ∷ ms)) ≡ placed f row m ms o
among-by f row m ms Less = refl
among-by f row m ms Equal = refl
among-by f row m ms Greater = refl

pub among-step : (f : Field) (row : Row) (m : Member) (ms : List Member) → among (f ∷ row) (m ∷ ms) ≡ placed f row m ms (cmp m.key f.0)
among-step f row m ms = among-by f row m ms (cmp m.key f.0)

-- ---- order

further : (q k : List ℕ) (row : Row) → cmp q k ≡ Less → is_before k row ≡ true → is_before q row ≡ true
further q k [] e h = refl
further q k (f ∷ row) e h =
    let p = and_parts (less (cmp k f.0)) (is_before k row) h in
    rw (nat_list_cmp_total.trans q k f.0 e (is_less (cmp k f.0) p.0), further q k row e p.1) refl

further-each : (q k : List ℕ) (ms : List Member) → cmp q k ≡ Less → is_before_each k ms ≡ true → is_before_each q ms ≡ true
further-each q k [] e h = refl
further-each q k (m ∷ ms) e h =
    let p = and_parts (less (cmp k m.key)) (is_before_each k ms) h in
    rw (nat_list_cmp_total.trans q k m.key e (is_less (cmp k m.key) p.0), further-each q k ms e p.1) refl

before-members : (q : List ℕ) (ms : List Member) → is_before_each q ms ≡ true → is_before q (fields_of ms) ≡ true
before-members q [] h = refl
before-members q (m ∷ ms) h = let p = and_parts (less (cmp q m.key)) (is_before_each q ms) h in rw (p.0, before-members q ms p.1) refl

before-placed : (q : List ℕ) (f : Field) (row : Row) (m : Member) (ms : List Member) (o : Ordering) → less (cmp q f.0) ≡ true → less (cmp q m.key) ≡ true
    → is_before q (among (f ∷ row) ms) ≡ true → is_before q (among row (m ∷ ms)) ≡ true → is_before q (placed f row m ms o) ≡ true
before-placed q f row m ms Less a b c d = rw (b, c) refl
before-placed q f row m ms Equal a b c d = c
before-placed q f row m ms Greater a b c d = rw (a, d) refl

pub before-among : (q : List ℕ) (row : Row) (ms : List Member) → is_before q row ≡ true → is_before_each q ms ≡ true → is_before q (among row ms) ≡ true
before-among q [] ms h g = before-members q ms g
before-among q (f ∷ row) [] h g = subst (λ x. is_before q x ≡ true) (sym (among-none (f ∷ row))) h
before-among q (f ∷ row) (m ∷ ms) h g =
    let p = and_parts (less (cmp q f.0)) (is_before q row) h in
    let r = and_parts (less (cmp q m.key)) (is_before_each q ms) g in
    subst (λ x. is_before q x ≡ true) (sym (among-step f row m ms))
    (before-placed q f row m ms (cmp m.key f.0) p.0 r.0 (before-among q (f ∷ row) ms h r.1) (before-among q row (m ∷ ms) p.1 g))

members-in-order : (ms : List Member) → are_in_order ms ≡ true → is_in_order (fields_of ms) ≡ true
members-in-order [] h = refl
members-in-order (m ∷ ms) h = let p = and_parts (is_before_each m.key ms) (are_in_order ms) h in rw (before-members m.key ms p.0, members-in-order ms p.1) refl

order-placed : (f : Field) (row : Row) (m : Member) (ms : List Member) (o : Ordering) → cmp m.key f.0 ≡ o → is_before f.0 row ≡ true → is_before_each m.key ms ≡ true
    → is_in_order (among (f ∷ row) ms) ≡ true → is_in_order (among row (m ∷ ms)) ≡ true → is_in_order (placed f row m ms o) ≡ true
order-placed f row m ms Less is b e later own =
    let first : is_before m.key (f ∷ row) ≡ true = rw (is, further m.key f.0 row is b) refl in
    rw (before-among m.key (f ∷ row) ms first e, later) refl
order-placed f row m ms Equal is b e later own = later
order-placed f row m ms Greater is b e later own =
    let back : cmp f.0 m.key ≡ Less = turned m.key f.0 is in
    let behind : is_before_each f.0 (m ∷ ms) ≡ true = rw (back, further-each f.0 m.key ms back e) refl in
    rw (before-among f.0 row (m ∷ ms) b behind, own) refl

pub order-among : (row : Row) (ms : List Member) → is_in_order row ≡ true → are_in_order ms ≡ true → is_in_order (among row ms) ≡ true
order-among [] ms h g = members-in-order ms g
order-among (f ∷ row) [] h g = subst (λ x. is_in_order x ≡ true) (sym (among-none (f ∷ row))) h
order-among (f ∷ row) (m ∷ ms) h g =
    let p = and_parts (is_before f.0 row) (is_in_order row) h in
    let r = and_parts (is_before_each m.key ms) (are_in_order ms) g in
    subst (λ x. is_in_order x ≡ true) (sym (among-step f row m ms))
    (order-placed f row m ms (cmp m.key f.0) refl p.0 r.0 (order-among (f ∷ row) ms h r.1) (order-among row (m ∷ ms) p.1 g))

-- ---- what there is at a key

abbrev pub at : List ℕ → Row → Option Data
at key row = get_member key (members_of row)

abbrev pub at-by : Ordering → Option Data → Option Data → Option Data
at-by o None rest = rest
at-by o (Some d) rest = match_ordering o rest (Some d) rest

at-first : (key k : List ℕ) (o : Option Data) (ms : Members) → get_member key (with_member k o ms) ≡ at-by (cmp key k) o (get_member key ms)
at-first key k None ms = refl
at-first key k (Some d) ms = refl

pub at-cons : (key : List ℕ) (f : Field) (row : Row) → at key (f ∷ row) ≡ at-by (cmp key f.0) (value_data f.1) (at key row)
at-cons key f row = at-first key f.0 (value_data f.1) (members_of row)

-- at another key
pub at-other : (o : Ordering) (d rest : Option Data) → same o ≡ false → at-by o d rest ≡ rest
at-other o None rest e = refl
at-other Less (Some d) rest e = refl
at-other Equal (Some d) rest e = absurd (true≢false e)
at-other Greater (Some d) rest e = refl

-- at its own, where there is nothing behind
at-same : (o : Ordering) (d a b : Option Data) → o ≡ Equal → a ≡ None → b ≡ None → at-by o d a ≡ at-by o d b
at-same o None a b e x y = x ∙ sym y
at-same o (Some d) a b e x y = rw e refl

not-same : (key q k : List ℕ) → cmp key q ≡ Equal → cmp q k ≡ Less → same (cmp key k) ≡ false
not-same key q k e l = rw (nat_list_cmp_total.congr key q k e ∙ l) refl

-- a key is none of those behind it
none-behind : (key q : List ℕ) (row : Row) → cmp key q ≡ Equal → is_before q row ≡ true → at key row ≡ None
none-behind key q [] e h = refl
none-behind key q (f ∷ row) e h =
    let p = and_parts (less (cmp q f.0)) (is_before q row) h in
    at-cons key f row ∙ at-other (cmp key f.0) (value_data f.1) (at key row) (not-same key q f.0 e (is_less (cmp q f.0) p.0)) ∙ none-behind key q row e p.1

not-own : (key q : List ℕ) (row : Row) → cmp key q ≡ Equal → is_before q row ≡ true → is_own key row ≡ false
not-own key q [] e h = refl
not-own key q (f ∷ row) e h =
    let p = and_parts (less (cmp q f.0)) (is_before q row) h in
    rw (not-same key q f.0 e (is_less (cmp q f.0) p.0), not-own key q row e p.1) refl

-- a member before an own key is at another
other-member : (key : List ℕ) (row : Row) (q : List ℕ) (o : Ordering) → cmp key q ≡ o → is_own key row ≡ true → is_before q row ≡ true → same o ≡ false
other-member key row q Less e own b = refl
other-member key row q Equal e own b = absurd (true≢false (sym own ∙ not-own key q row e b))
other-member key row q Greater e own b = refl

own-later : (o : Ordering) (b : Bool) → o ≡ Less → (same o || b) ≡ true → b ≡ true
own-later o b e h = rw e at h

own-head : (key : List ℕ) (f : Field) (row : Row) (m : Member) (ms : List Member) (o : Ordering) → cmp key f.0 ≡ o → is_before f.0 row ≡ true → is_before_each f.0 (m ∷ ms) ≡ true
    → (same o || is_own key row) ≡ true → (is_own key row ≡ true → at key (among row (m ∷ ms)) ≡ at key row) → at-by o (value_data f.1) (at key (among row (m ∷ ms))) ≡ at-by o (value_data f.1) (at key row)
own-head key f row m ms Less is b e own later = ap (at-by Less (value_data f.1)) (later own)
own-head key f row m ms Equal is b e own later = at-same Equal (value_data f.1) _ _ refl (none-behind key f.0 (among row (m ∷ ms)) is (before-among f.0 row (m ∷ ms) b e)) (none-behind key f.0 row is b)
own-head key f row m ms Greater is b e own later = ap (at-by Greater (value_data f.1)) (later own)

own-placed : (key : List ℕ) (f : Field) (row : Row) (m : Member) (ms : List Member) (o : Ordering) → cmp m.key f.0 ≡ o → is_before f.0 row ≡ true → is_before_each m.key ms ≡ true → is_own key (f ∷ row) ≡ true
    → at key (among (f ∷ row) ms) ≡ at key (f ∷ row) → (is_own key row ≡ true → at key (among row (m ∷ ms)) ≡ at key row) → at key (placed f row m ms o) ≡ at key (f ∷ row)
own-placed key f row m ms Less is b e own here later =
    let first : is_before m.key (f ∷ row) ≡ true = rw (is, further m.key f.0 row is b) refl in
    at-cons key (field_of m) (among (f ∷ row) ms) ∙ at-other (cmp key m.key) (Some m.value) _ (other-member key (f ∷ row) m.key (cmp key m.key) refl own first) ∙ here
own-placed key f row m ms Equal is b e own here later = here
own-placed key f row m ms Greater is b e own here later =
    let back : cmp f.0 m.key ≡ Less = turned m.key f.0 is in
    let behind : is_before_each f.0 (m ∷ ms) ≡ true = rw (back, further-each f.0 m.key ms back e) refl in
    at-cons key f (among row (m ∷ ms)) ∙ own-head key f row m ms (cmp key f.0) refl b behind own later ∙ sym (at-cons key f row)

pub own-among : (key : List ℕ) (row : Row) (ms : List Member) → is_in_order row ≡ true → are_in_order ms ≡ true → is_own key row ≡ true → at key (among row ms) ≡ at key row
own-among key [] ms h g own = absurd (true≢false (sym own))
own-among key (f ∷ row) [] h g own = ap (at key) (among-none (f ∷ row))
own-among key (f ∷ row) (m ∷ ms) h g own =
    let p = and_parts (is_before f.0 row) (is_in_order row) h in
    let r = and_parts (is_before_each m.key ms) (are_in_order ms) g in
    ap (at key) (among-step f row m ms)
    ∙ own-placed key f row m ms (cmp m.key f.0) refl p.0 r.0 own (own-among key (f ∷ row) ms h r.1 own) (λ o. own-among key row (m ∷ ms) p.1 g o)

-- ---- at any other key

members-at : (key : List ℕ) (ms : List Member) → at key (fields_of ms) ≡ get_member key (more_members ms)
members-at key [] = refl
members-at key (m ∷ ms) = ap (λ rest. match_ordering (cmp key m.key) rest (Some m.value) rest) (members-at key ms)

or-false : (a b : Bool) → (a || b) ≡ false → (a ≡ false) × (b ≡ false)
or-false false false e = (refl, refl)
or-false false true e = absurd (true≢false e)
or-false true b e = absurd (true≢false e)

-- a key that is not the field's is none that is the same as that
apart : (key q k : List ℕ) (o : Ordering) → cmp key q ≡ o → cmp q k ≡ Equal → same (cmp key k) ≡ false → same o ≡ false
apart key q k Less is e n = refl
apart key q k Equal is e n = absurd (true≢false (rw (nat_list_cmp_total.congr key q k is ∙ e) at n))
apart key q k Greater is e n = refl

others-placed : (key : List ℕ) (f : Field) (row : Row) (m : Member) (ms : List Member) (o : Ordering) → cmp m.key f.0 ≡ o → same (cmp key f.0) ≡ false
    → at key (among (f ∷ row) ms) ≡ get_member key (more_members ms) → at key (among row (m ∷ ms)) ≡ get_member key (more_members (m ∷ ms))
    → at key (placed f row m ms o) ≡ get_member key (more_members (m ∷ ms))
others-placed key f row m ms Less is n here later = ap (λ rest. match_ordering (cmp key m.key) rest (Some m.value) rest) here
others-placed key f row m ms Equal is n here later =
    here ∙ sym (at-other (cmp key m.key) (Some m.value) (get_member key (more_members ms)) (apart key m.key f.0 (cmp key m.key) refl is n))
others-placed key f row m ms Greater is n here later = at-cons key f (among row (m ∷ ms)) ∙ at-other (cmp key f.0) (value_data f.1) _ n ∙ later

pub others-among : (key : List ℕ) (row : Row) (ms : List Member) → is_own key row ≡ false → at key (among row ms) ≡ get_member key (more_members ms)
others-among key [] ms other = members-at key ms
others-among key (f ∷ row) [] other =
    let p = or-false (same (cmp key f.0)) (is_own key row) other in
    at-cons key f (among row []) ∙ at-other (cmp key f.0) (value_data f.1) _ p.0 ∙ others-among key row [] p.1
others-among key (f ∷ row) (m ∷ ms) other =
    let p = or-false (same (cmp key f.0)) (is_own key row) other in
    ap (at key) (among-step f row m ms)
    ∙ others-placed key f row m ms (cmp m.key f.0) refl p.0 (others-among key (f ∷ row) ms other) (others-among key row (m ∷ ms) p.1)

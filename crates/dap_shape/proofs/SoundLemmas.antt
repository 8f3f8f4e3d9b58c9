-- What a walk over a text notes of an object's rows, member by member.
use Rattle.std.proofs.Common.{◌≡◌, ◌≢◌, ℕ, zero, suc, Result, Ok, Err, IfOk, OnOk, ◌+◌, ◌<◌, ◌≤◌, List, [], ◌∷◌, length, Option, Some, None, option_map, Bool, true, false, cond, get_or, drop, add-one, bytes_eq, refl, sym, ap, ◌∙◌, subst, arith, true≢false}
use Rattle.std.specs.Prelude.{map, not, ◌&&◌, ◌||◌, MatchOption, set, replicate}
use Rattle.std.proofs.Math.Seq.{drop-cons}
use Rattle.std.proofs.lemmas.Slice.Eq.{bytes_eq-Decides}
use Rattle.serde_json.specs.Data.{Data, object, Items, item, Members, no_members, put}
use Rattle.serde_json.specs.Find.{get_member}
use Rattle.serde_json.proofs.Views.{get_member-put, get_member-put_other}
use Rattle.dap_json.specs.Field.{is_null, unless_null, tree_at}
use Rattle.dap_shape.specs.Shapes.{Row, Fault, inside, at_key, at_place, missing}
use Rattle.dap_shape.specs.Faults.{or_else, row_fault, rows_fault, fault_of, items_fault}
use Rattle.dap_shape.specs.PrivateSound.{names, are_apart, one_further, row_at, lacks_one, IsKept, AreKept, object_fault}
use Rattle.dap_shape.specs.Seen.{row_seen}
use Rattle.dap_shape.specs.declared.shape.Field.{Field}
use Rattle.dap_shape.specs.declared.shape.Kind.{Kind}
use Rattle.dap_shape.specs.declared.shape.Shape.{Shape}
use Rattle.dap_shape.specs.declared.shape.Shape.TheVariants.{One}

-- ---- null

-- ---- keys

key_apart : (key name : List ℕ) → bytes_eq key name ≡ false → key ≢ name
key_apart key name e = λ same. true≢false (sym ((bytes_eq-Decides key name).1 same) ∙ e)

key_same : (key name : List ℕ) → bytes_eq key name ≡ true → key ≡ name
key_same key name e = (bytes_eq-Decides key name).0 e

left_false : (a b : Bool) → (a || b) ≡ false → a ≡ false
left_false true b e = e
left_false false b e = refl

right_false : (a b : Bool) → (a || b) ≡ false → b ≡ false
right_false true b e = absurd (true≢false e)
right_false false b e = e

both_true : (a b : Bool) → (not a && b) ≡ true → (a ≡ false) × (b ≡ true)
both_true true b e = absurd (true≢false (sym e))
both_true false b e = (refl, e)

-- ---- rows that are kept

-- a member of another name
kept_beside : (ms : Members) (row : Row) (came : Bool) (name : List ℕ) (d : Data) → row.key ≢ name → IsKept ms row came → IsKept (put name d ms) row came
kept_beside ms row came name d other kept =
    subst (λ o. MatchOption (unless_null o) (came ≡ false) (λ v. fault_of row.shape v ≡ None)) (sym (get_member-put_other row.key name d ms other)) kept

pub kept_others : (ms : Members) (rows : List Row) (seen : List Bool) (name : List ℕ) (d : Data) → names name rows ≡ false → AreKept ms rows seen → AreKept (put name d ms) rows seen
kept_others ms [] seen name d none kept = tt
kept_others ms (row ∷ rows) [] name d none kept = absurd kept
kept_others ms (row ∷ rows) (came ∷ seen) name d none kept =
    (kept_beside ms row came name d (key_apart row.key name (left_false (bytes_eq row.key name) (names name rows) none)) kept.0, kept_others ms rows seen name d (right_false (bytes_eq row.key name) (names name rows) none) kept.1)

kept_at : (row : Row) (d : Data) (b : Bool) → is_null d ≡ b → (b ≡ false → fault_of row.shape d ≡ None) → MatchOption (cond (not b) (Some d) None) (not b ≡ false) (λ v. fault_of row.shape v ≡ None)
kept_at row d true e sound = refl
kept_at row d false e sound = sound refl

-- the member that a row is for
kept_this : (ms : Members) (row : Row) (name : List ℕ) (d : Data) → row.key ≡ name → (is_null d ≡ false → fault_of row.shape d ≡ None) → IsKept (put name d ms) row (not (is_null d))
kept_this ms row name d same sound =
    let here : get_member row.key (put name d ms) ≡ Some d = ap (λ k. get_member row.key (put k d ms)) (sym same) ∙ get_member-put row.key d ms in
    subst (λ o. MatchOption (unless_null o) (not (is_null d) ≡ false) (λ v. fault_of row.shape v ≡ None)) (sym here) (kept_at row d (is_null d) refl sound)

abbrev pair_of : ℕ × Row → Option (ℕ × Row) → ℕ × Row
pair_of none None = none
pair_of none (Some found) = found

-- what is found further on was found one place before
further : (o : Option (ℕ × Row)) (place : ℕ) (found : Row) → option_map one_further o ≡ Some (place, found) → (before : ℕ) × (o ≡ Some (before, found)) × (place ≡ suc before)
further None place found e = absurd (cc e)
further (Some x) place found e = (x.0, ap (λ o. Some (x.0, (pair_of (0, x.1) o).1)) e, sym (ap (λ o. (pair_of (0, x.1) o).0) e))

found_first : (row found : Row) (place : ℕ) → ◌≡◌ {A = Option (ℕ × Row)} (Some (0, row)) (Some (place, found)) → (0 ≡ place) × (row ≡ found)
found_first row found place e = (ap (λ o. (pair_of (0, row) o).0) e, ap (λ o. (pair_of (0, row) o).1) e)

place_by : (row : Row) (rows : List Row) (name : List ℕ) (place : ℕ) (found : Row) (b : Bool) → ((before : ℕ) → row_at rows name ≡ Some (before, found) → before < length rows)
    → cond b (Some (0, row)) (option_map one_further (row_at rows name)) ≡ Some (place, found) → place < length (row ∷ rows)
place_by row rows name place found true on e =
    let first = found_first row found place e in
    let zeroth = first.0 in
    omega arith
place_by row rows name place found false on e =
    let before = further (row_at rows name) place found e in
    let below = on before.0 before.1 in
    let next = before.2 in
    omega arith

pub place_below : (rows : List Row) (name : List ℕ) (place : ℕ) (found : Row) → row_at rows name ≡ Some (place, found) → place < length rows
place_below [] name place found e = absurd (cc e)
place_below (row ∷ rows) name place found e = place_by row rows name place found (bytes_eq row.key name) (λ before is. place_below rows name before found is) e

module _ (ms : Members) (row : Row) (rows : List Row) (came : Bool) (seen : List Bool) (name : List ℕ) (d : Data) (place : ℕ) (found : Row)
    (beside : names row.key rows ≡ false) (sound : is_null d ≡ false → fault_of found.shape d ≡ None) (kept : AreKept ms (row ∷ rows) (came ∷ seen)) where
  abbrev Kept : ℕ → Type 0
  Kept p = AreKept (put name d ms) (row ∷ rows) (set (came ∷ seen) p (not (is_null d)))

  kept_by : (b : Bool) → bytes_eq row.key name ≡ b → ((before : ℕ) → row_at rows name ≡ Some (before, found) → AreKept (put name d ms) rows (set seen before (not (is_null d))))
      → cond b (Some (0, row)) (option_map one_further (row_at rows name)) ≡ Some (place, found) → Kept place
  kept_by true is on e =
      let first = found_first row found place e in
      let same = key_same row.key name is in
      subst Kept first.0 (
        kept_this ms row name d same (subst (λ r. is_null d ≡ false → fault_of r.shape d ≡ None) (sym first.1) sound),
        kept_others ms rows seen name d (subst (λ k. names k rows ≡ false) same beside) kept.1,
      )
  kept_by false is on e =
      let before = further (row_at rows name) place found e in
      subst Kept (sym before.2) (kept_beside ms row came name d (key_apart row.key name is) kept.0, on before.0 before.1)

pub kept_more : (ms : Members) (rows : List Row) (seen : List Bool) (name : List ℕ) (d : Data) (place : ℕ) (found : Row) → are_apart rows ≡ true → row_at rows name ≡ Some (place, found)
    → (is_null d ≡ false → fault_of found.shape d ≡ None) → AreKept ms rows seen → AreKept (put name d ms) rows (set seen place (not (is_null d)))
kept_more ms [] seen name d place found apart e sound kept = absurd (cc e)
kept_more ms (row ∷ rows) [] name d place found apart e sound kept = absurd kept
kept_more ms (row ∷ rows) (came ∷ seen) name d place found apart e sound kept =
    let parts = both_true (names row.key rows) (are_apart rows) apart in
    kept_by ms row rows came seen name d place found parts.0 sound kept (bytes_eq row.key name) refl (λ before is. kept_more ms rows seen name d before found parts.1 is sound kept.1) e

none_named : (o : Option (ℕ × Row)) → option_map one_further o ≡ None → o ≡ None
none_named None e = refl
none_named (Some x) e = absurd (cc e)

none_by : (row : Row) (rows : List Row) (name : List ℕ) (b : Bool) → (row_at rows name ≡ None → names name rows ≡ false) → cond b (Some (0, row)) (option_map one_further (row_at rows name)) ≡ None → (b || names name rows) ≡ false
none_by row rows name true on e = absurd (cc e)
none_by row rows name false on e = on (none_named (row_at rows name) e)

pub no_row : (rows : List Row) (name : List ℕ) → row_at rows name ≡ None → names name rows ≡ false
no_row [] name e = refl
no_row (row ∷ rows) name e = none_by row rows name (bytes_eq row.key name) (λ is. no_row rows name is) e

-- nothing has come at first
pub none_kept : (rows : List Row) (n : ℕ) → length rows ≤ n → AreKept no_members rows (replicate n false)
none_kept [] n few = tt
none_kept (row ∷ rows) zero few = absurd (omega arith)
none_kept (row ∷ rows) (suc n) few = (refl, none_kept rows n (omega arith))

-- ---- at the end

no_fault_beside : (rows : List Row) (found : List ℕ → Shape → Option (Option Fault)) (o : Option Fault) → o ≡ None → rows_fault found rows ≡ None → or_else o (rows_fault found rows) ≡ None
no_fault_beside rows found o none rest = ap (λ x. or_else x (rows_fault found rows)) none ∙ rest

not_lacking : (is_required came : Bool) (fault : Fault) → (is_required && not came) ≡ false → came ≡ false → cond is_required (Some fault) None ≡ None
not_lacking true true fault e none = absurd (true≢false none)
not_lacking true false fault e none = absurd (true≢false e)
not_lacking false came fault e none = refl

row_sound : (row : Row) (came : Bool) (o : Option Data) → (row.is_required && not came) ≡ false → MatchOption o (came ≡ false) (λ v. fault_of row.shape v ≡ None) → row_fault row (option_map (fault_of row.shape) o) ≡ None
row_sound row came None e kept = not_lacking row.is_required came (missing row.key) e kept
row_sound row came (Some v) e kept = ap (option_map (inside (at_key row.key))) kept

pub all_kept : (ms : Members) (rows : List Row) (seen : List Bool) → AreKept ms rows seen → lacks_one rows seen ≡ false → object_fault rows ms
all_kept ms [] seen kept e = refl
all_kept ms (row ∷ rows) [] kept e = absurd kept
all_kept ms (row ∷ rows) (came ∷ seen) kept e =
    no_fault_beside rows (λ key shape. option_map (fault_of shape) (tree_at key (object ms))) (row_fault row (option_map (fault_of row.shape) (tree_at row.key (object ms))))
    (row_sound row came (tree_at row.key (object ms)) (left_false (row.is_required && not came) (lacks_one rows seen) e) kept.0)
    (all_kept ms rows seen kept.1 (right_false (row.is_required && not came) (lacks_one rows seen) e))

-- ---- the rows that are left

module _ (rows : List Field) (seen : List Bool) (i : ℕ) (d : Field) (few : length rows ≤ length seen) (below : i < length rows) where
  lacks_here : lacks_one (map row_seen (drop i rows)) (drop i seen) ≡ (((row_seen (get_or rows i d)).is_required && not (get_or seen i false)) || lacks_one (map row_seen (drop (i + 1) rows)) (drop (i + 1) seen))
  lacks_here =
      let cut : drop i rows ≡ get_or rows i d ∷ drop (i + 1) rows = rw (add-one, drop-cons rows i d) in
      let less : i < length seen = omega arith in
      let cut_seen : drop i seen ≡ get_or seen i false ∷ drop (i + 1) seen = rw (add-one, drop-cons seen i false, less) in
      ap (λ z. lacks_one (map row_seen z) (drop i seen)) cut ∙ ap (λ z. lacks_one (map row_seen (get_or rows i d ∷ drop (i + 1) rows)) z) cut_seen

  pub not_lacked : ((row_seen (get_or rows i d)).is_required && not (get_or seen i false)) ≡ false → lacks_one (map row_seen (drop (i + 1) rows)) (drop (i + 1) seen) ≡ lacks_one (map row_seen (drop i rows)) (drop i seen)
  not_lacked none = sym (lacks_here ∙ ap (λ b. b || lacks_one (map row_seen (drop (i + 1) rows)) (drop (i + 1) seen)) none)

  pub one_lacked : ((row_seen (get_or rows i d)).is_required && not (get_or seen i false)) ≡ true → true ≡ lacks_one (map row_seen (drop i rows)) (drop i seen)
  one_lacked some = sym (lacks_here ∙ ap (λ b. b || lacks_one (map row_seen (drop (i + 1) rows)) (drop (i + 1) seen)) some)

-- ---- lists

-- elements that follow sound ones
pub more_items : (n : ℕ) (kind : Kind) (d : Data) (ds : Items) → fault_of (One kind) d ≡ None → items_fault (n + 1) kind ds ≡ None → items_fault n kind (item d ds) ≡ None
more_items n kind d ds sound rest = ap (λ x. or_else (option_map (inside (at_place n)) x) (items_fault (n + 1) kind ds)) sound ∙ rest

-- ---- what a call has answered

pub if_ok : {A E : Type 0} (result : Result A E) (P Q : A → Type 0) → ((a : A) → P a → Q a) → IfOk result P → IfOk result Q
if_ok (Ok a) P Q more is = more a is
if_ok (Err fault) P Q more is = tt

pub on_ok : {A E : Type 0} (result : Result A E) (P Q : Type 0) → (P → Q) → OnOk result P → OnOk result Q
on_ok (Ok a) P Q more is = more is
on_ok (Err fault) P Q more is = tt

-- What the walk over a value rests on: what stands at a key, and that it nests less deep.
use Rattle.std.proofs.Common.{◌≡◌, ℕ, zero, suc, ◌+◌, ◌-◌, ◌*◌, ◌++◌, take, append_assoc, codes, ◌<◌, ◌≤◌, List, [], ◌∷◌, length, get_or, drop, Option, Some, None, option_map, Bool, true, false, cond, Ordering, Less, Equal, Greater, refl, sym, ap, ◌∙◌, subst, arith, add-one}
use Rattle.std.specs.Prelude.{map, flat_map, max, not, is_some, bytes_eq, if◌then◌else◌, MatchOption}
use Rattle.std.specs.List.{AllByRecursion}
use Rattle.std.proofs.lemmas.List.{take_all}
use Rattle.std.proofs.lemmas.List.Folds.{flat_map-map}
use Rattle.dap_shape.specs.Sentences.{step_text, first_step_text, path_text}
use Rattle.dap_shape.specs.declared.fault.Inward.{Inward}
use Rattle.std.specs.Ordering.{nat_cmp, match_ordering}
use Rattle.std.specs.Cmp.Lexicographic.{slice_cmp}
use Rattle.std.proofs.Math.Seq.{drop-cons}
use Rattle.serde_json.specs.Data.{Data, null, boolean, number, string, array, object, Members, no_members, member, depth, items_depth, members_depth}
use Rattle.serde_json.specs.Find.{get, get_member, as_object}
use Rattle.serde_json.specs.View.{view, items_view}
use Rattle.serde_json.specs.declared.value.Value.{Value}
use Rattle.dap_json.specs.Field.{is_null, unless_null, tree_at}
use Rattle.dap_shape.specs.Shapes.{Row, Fault, inside, at_key, missing}
use Rattle.dap_shape.specs.Rows.{fields_of}
use Rattle.dap_shape.specs.Faults.{or_else, row_fault, rows_fault, fault_of, member_fault, row_named}
use Rattle.dap_shape.specs.Laws.{KeepsRow, SoundObjectsKeepTheirRows}
use Rattle.dap_shape.specs.Seen.{row_seen, entry_seen, step_seen}
use Rattle.dap_shape.specs.declared.shape.Entry.{Entry}
use Rattle.dap_shape.specs.declared.shape.TypeName.{TypeName}
use Rattle.dap_shape.specs.declared.shape.Kind.TheVariants.{Object}
use Rattle.dap_shape.specs.declared.shape.Shape.{Shape}
use Rattle.dap_shape.specs.declared.shape.Shape.TheVariants.{One}

-- ---- what stands at a key

null_or : (shape : Shape) (d : Data) (b : Bool) → cond b None (Some (fault_of shape d)) ≡ option_map (fault_of shape) (cond (not b) (Some d) None)
null_or shape d true = refl
null_or shape d false = refl

by_order : (shape : Shape) (d : Data) (more : Option (Option Fault)) (rest : Option Data) (o : Ordering) → more ≡ option_map (fault_of shape) (unless_null rest)
    → match_ordering o more (cond (is_null d) None (Some (fault_of shape d))) more ≡ option_map (fault_of shape) (unless_null (match_ordering o rest (Some d) rest))
by_order shape d more rest Less e = e
by_order shape d more rest Equal e = null_or shape d (is_null d)
by_order shape d more rest Greater e = e

pub member_fault-get : (key : List ℕ) (shape : Shape) (ms : Members) → member_fault key shape ms ≡ option_map (fault_of shape) (unless_null (get_member key ms))
member_fault-get key shape no_members = refl
member_fault-get key shape (member name d ms) = by_order shape d (member_fault key shape ms) (get_member key ms) (slice_cmp nat_cmp key name) (member_fault-get key shape ms)

rows_fault-same : (f g : List ℕ → Shape → Option (Option Fault)) (rows : List Row) → ((key : List ℕ) (shape : Shape) → f key shape ≡ g key shape) → rows_fault f rows ≡ rows_fault g rows
rows_fault-same f g [] same = refl
rows_fault-same f g (row ∷ rows) same =
    ap (λ x. or_else (row_fault row x) (rows_fault f rows)) (same row.key row.shape) ∙ ap (λ x. or_else (row_fault row (g row.key row.shape)) x) (rows_fault-same f g rows same)

-- what is found at a key of an object
abbrev pub found_in : Data → List ℕ → Shape → Option (Option Fault)
found_in d key shape = option_map (fault_of shape) (tree_at key d)

pub fault_of-object : (name : TypeName) (d : Data) → is_some (as_object d) ≡ true → rows_fault (found_in d) (fields_of name) ≡ fault_of (One (Object name)) d
fault_of-object name null is = absurd (cc is)
fault_of-object name (boolean b) is = absurd (cc is)
fault_of-object name (number n) is = absurd (cc is)
fault_of-object name (string s) is = absurd (cc is)
fault_of-object name (array ds) is = absurd (cc is)
fault_of-object name (object ms) is = rows_fault-same (found_in (object ms)) (λ key shape. member_fault key shape ms) (fields_of name) (λ key shape. sym (member_fault-get key shape ms))

-- ---- what is inside nests less deep

at_order : (key : List ℕ) (ms : Members) (d e : Data) (o : Ordering) → (get_member key ms ≡ Some e → depth e ≤ members_depth ms) → match_ordering o (get_member key ms) (Some d) (get_member key ms) ≡ Some e → depth e ≤ max (depth d) (members_depth ms)
at_order key ms d e Less more is = let le = more is in omega arith
at_order key ms d e Equal more is =
    let same : d ≡ e = cc is in
    let le : depth e ≤ depth d = omega (arith, ap depth same) in
    omega arith
at_order key ms d e Greater more is = let le = more is in omega arith

member_depth : (key : List ℕ) (ms : Members) (e : Data) → get_member key ms ≡ Some e → depth e ≤ members_depth ms
member_depth key no_members e is = absurd (cc is)
member_depth key (member name d ms) e is = at_order key ms d e (slice_cmp nat_cmp key name) (member_depth key ms e) is

pub get_depth : (key : List ℕ) (d e : Data) → get key d ≡ Some e → depth e < depth d
get_depth key null e is = absurd (cc is)
get_depth key (boolean b) e is = absurd (cc is)
get_depth key (number n) e is = absurd (cc is)
get_depth key (string s) e is = absurd (cc is)
get_depth key (array ds) e is = absurd (cc is)
get_depth key (object ms) e is = let le = member_depth key ms e is in omega arith

not_null : (d e : Data) (b : Bool) → cond (not b) (Some d) None ≡ Some e → Some d ≡ Some e
not_null d e true is = absurd (cc is)
not_null d e false is = is

unless_null-some : (o : Option Data) (e : Data) → unless_null o ≡ Some e → o ≡ Some e
unless_null-some None e is = is
unless_null-some (Some d) e is = not_null d e (is_null d) is

-- so much is left to walk
abbrev pub weight : Option Data → ℕ
weight None = 0
weight (Some d) = 6 * depth d + 6

pub weight-tree_at : (key : List ℕ) (d : Data) (o : Option Data) → o ≡ tree_at key d → weight o < 6 * depth d + 2
weight-tree_at key d None is = omega arith
weight-tree_at key d (Some e) is = let less = get_depth key d e (unless_null-some (get key d) e (sym is)) in omega arith

pub item_depth : (values : List Value) (i : ℕ) (d : Value) → i < length values → depth (view (get_or values i d)) ≤ items_depth (items_view values)
item_depth [] i d below = absurd (omega arith)
item_depth (v ∷ values) zero d below = omega arith
item_depth (v ∷ values) (suc i) d below = let le = item_depth values i d (omega arith) in omega arith

-- ---- entries, and texts of a list

module _ (entries : List Entry) (name : List ℕ) (i : ℕ) (d : Entry) (below : i < length entries) where
  entry_here : row_named (map entry_seen (drop i entries)) name ≡ (if bytes_eq (get_or entries i d).0.now name then Some (row_seen (get_or entries i d).1) else row_named (map entry_seen (drop (i + 1) entries)) name)
  entry_here = let cut : drop i entries ≡ get_or entries i d ∷ drop (i + 1) entries = rw (add-one, drop-cons entries i d) in ap (λ z. row_named (map entry_seen z) name) cut

  pub entry_passed : bytes_eq (get_or entries i d).0.now name ≡ false → row_named (map entry_seen (drop (i + 1) entries)) name ≡ row_named (map entry_seen (drop i entries)) name
  entry_passed other = sym (entry_here ∙ ap (λ b. cond b (Some (row_seen (get_or entries i d).1)) (row_named (map entry_seen (drop (i + 1) entries)) name)) other)

  pub entry_found : bytes_eq (get_or entries i d).0.now name ≡ true → Some (row_seen (get_or entries i d).1) ≡ row_named (map entry_seen (drop i entries)) name
  entry_found same = sym (entry_here ∙ ap (λ b. cond b (Some (row_seen (get_or entries i d).1)) (row_named (map entry_seen (drop (i + 1) entries)) name)) same)

pub item_below : (vs ws : List Value) (i : ℕ) (v : Value) → v ≡ get_or vs i v → vs ≡ ws → i < length vs → depth (view v) ≤ items_depth (items_view ws)
item_below vs ws i v is same below = subst (λ xs. depth (view v) ≤ items_depth (items_view xs)) same (subst (λ x. depth (view x) ≤ items_depth (items_view vs)) (sym is) (item_depth vs i v below))

-- ---- the text of a path

pub path_text-split : (path : List Inward) (d : Inward) → 1 ≤ length path
    → path_text (map step_seen path) ≡ codes ": " ++ (first_step_text (step_seen (get_or path 0 d)) ++ flat_map (λ step. step_text (step_seen step)) (take (length path - 1) (drop 1 path)))
path_text-split [] d some = absurd (omega arith)
path_text-split (step ∷ steps) d some =
    let all : length steps ≤ length (step ∷ steps) - 1 = omega arith in
    ap (λ z. codes ": " ++ (first_step_text (step_seen step) ++ z)) (flat_map-map step_text step_seen steps ∙ ap (flat_map (λ s. step_text (step_seen s))) (sym (take_all (length (step ∷ steps) - 1) steps all)))

pub joined_parts : (start one two three all bytes : List ℕ) → all ≡ start ++ one → bytes ≡ all ++ two → bytes ++ three ≡ start ++ (one ++ (two ++ three))
joined_parts start one two three all bytes e f = ap (λ z. z ++ three) (f ∙ ap (λ z. z ++ two) e) ∙ append_assoc (start ++ one) two three ∙ append_assoc start one (two ++ three)

-- ---- a value without a fault keeps each row

none_first : (x y : Option Fault) → or_else x y ≡ None → x ≡ None
none_first None y e = refl
none_first (Some fault) y e = absurd (cc e)

none_second : (x y : Option Fault) → or_else x y ≡ None → y ≡ None
none_second None y e = e
none_second (Some fault) y e = absurd (cc e)

none_inside : {A B : Type 0} (f : A → B) (o : Option A) → option_map f o ≡ None → o ≡ None
none_inside f None e = refl
none_inside f (Some x) e = absurd (cc e)

not_required : (b : Bool) (fault : Fault) → cond b (Some fault) None ≡ None → b ≡ false
not_required true fault e = absurd (cc e)
not_required false fault e = refl

row_kept : (row : Row) (o : Option Data) → row_fault row (option_map (fault_of row.shape) o) ≡ None → MatchOption o (row.is_required ≡ false) (λ v. fault_of row.shape v ≡ None)
row_kept row None e = not_required row.is_required (missing row.key) e
row_kept row (Some v) e = none_inside (inside (at_key row.key)) (fault_of row.shape v) e

rows_kept : (d : Data) (rows : List Row) → rows_fault (found_in d) rows ≡ None → AllByRecursion (KeepsRow d) rows
rows_kept d [] e = tt
rows_kept d (row ∷ rows) e =
    let first = row_fault row (found_in d row.key row.shape) in
    (row_kept row (tree_at row.key d) (none_first first (rows_fault (found_in d) rows) e), rows_kept d rows (none_second first (rows_fault (found_in d) rows) e))

pub object_rows : SoundObjectsKeepTheirRows
object_rows name null e = absurd (cc e)
object_rows name (boolean b) e = absurd (cc e)
object_rows name (number n) e = absurd (cc e)
object_rows name (string s) e = absurd (cc e)
object_rows name (array ds) e = absurd (cc e)
object_rows name (object ms) e = rows_kept (object ms) (fields_of name) (fault_of-object name (object ms) refl ∙ e)

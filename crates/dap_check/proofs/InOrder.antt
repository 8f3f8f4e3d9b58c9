-- The requests that are kept by their numbers, put in the order of their lines, are those that nothing has answered.
use Rattle.std.proofs.Common.{◌≡◌, ◌≢◌, ℕ, ◌+◌, ◌<◌, ◌≤◌, ◌==◌, ◌⊎◌, inl, inr, List, [], ◌∷◌, ◌++◌, Bool, true, false, Option, Some, None, refl, sym, ap, ◌∙◌, subst, arith}
use Rattle.std.specs.Prelude.{nat_lt, cond, ◌&&◌, filter, flat_map, is_some, Vec}
use Rattle.std.specs.BTreeMap as tree
use Rattle.std.specs.BTreeMap.{BTreeMap, is_at}
use Rattle.std.specs.List.{Contains}
use Rattle.std.specs.List.Sorted.{IsStrictlySortedBy}
use Rattle.std.specs.Map.{keys_of, values_of, lookup}
use Rattle.std.specs.Option.{option_or}
use Rattle.std.specs.Ordering.{nat_cmp, is_eq}
use Rattle.std.specs.Cmp.{nat_cmp_total, eq_by_cmp_equiv, nat_cmp_is}
use Rattle.std.specs.declared.cmp.Ordering.TheVariants.{Less, Equal, Greater}
use Rattle.std.proofs.lemmas.Bool.Decides.{nat_tests}
use Rattle.std.proofs.lemmas.List.Elements.{All-contains, Contains-append_left, Contains-append_right, Contains-push}
use Rattle.std.proofs.lemmas.Map.{lookup-none}
use Rattle.std.proofs.lemmas.Map.Entries.{none_past_head, none_below_head}
use Rattle.std.proofs.lemmas.Map.Keys.{IsDistinct-from_sorted, sorted_tail}
use Rattle.std.proofs.lemmas.Map.Views.{All-found}
use Rattle.dap_envelope.specs.declared.message.Kind.{Kind}
use Rattle.dap_envelope.specs.declared.message.Kind.TheVariants.{Request, Response, Event, Other}
use Rattle.dap_check.specs.Findings.{request_at, is_answered, open_requests, is_open_as}
use Rattle.dap_check.specs.Lines.{same_side}
use Rattle.dap_check.specs.Kept.{items_at, kept_at, AreWaiting, ArePending}
use Rattle.dap_check.specs.PrivateOpen.{AreFrom, all_kept, last_at, IsInOrder}
use Rattle.dap_check.specs.declared.line.Line.{Line}
use Rattle.dap_check.specs.declared.line.Side.{Side}
use Rattle.dap_check.specs.declared.line.Side.TheVariants.{Client, Adapter}
use Rattle.dap_check.specs.declared.pending.Pending.{Pending}
use Rattle.dap_check.specs.declared.rule.OpenRequest.{OpenRequest}
use Rattle.dap_check.specs.declared.waiting.Waiting.{Waiting}

-- ---- elements

abbrev Has : {X : Type 0} → X → List X → Type 0
Has x [] = ⊥
Has x (y ∷ ys) = (y ≡ x) ⊎ Has x ys

has_left : {X : Type 0} (x : X) (xs ys : List X) → Has x xs → Has x (xs ++ ys)
has_left x [] ys h = absurd h
has_left x (z ∷ xs) ys h = elim h [ inl e ↦ inl e | inr later ↦ inr (has_left x xs ys later) ]

has_right : {X : Type 0} (x : X) (xs ys : List X) → Has x ys → Has x (xs ++ ys)
has_right x [] ys h = h
has_right x (z ∷ xs) ys h = inr (has_right x xs ys h)

has_either : {X : Type 0} (x : X) (xs ys : List X) → Has x (xs ++ ys) → Has x xs ⊎ Has x ys
has_either x [] ys h = inr h
has_either x (z ∷ xs) ys h = elim h [ inl e ↦ inl (inl e) | inr later ↦ elim (has_either x xs ys later) [ inl l ↦ inl (inr l) | inr r ↦ inr r ] ]

contains : {X : Type 0} (x : X) (xs : List X) → Has x xs → Contains xs x
contains x [] h = absurd h
contains x (y ∷ xs) h = elim h [
  | inl e ↦ subst (λ z. Contains (z ∷ xs) x) (sym e) (Contains-append_left (x ∷ []) xs x (Contains-push [] x))
  | inr later ↦ Contains-append_right (y ∷ []) xs x (contains x xs later)
]

has_kept : {X : Type 0} (p : X → Bool) (x : X) (xs : List X) → p x ≡ true → Has x xs → Has x (filter p xs)
has_kept p x [] e h = absurd h
has_kept p x (y ∷ xs) e h = elim h [ inl same ↦ here (p y) (ap p same ∙ e) same | inr later ↦ there (p y) (has_kept p x xs e later) ]
  where
    here : (b : Bool) → b ≡ true → y ≡ x → Has x (cond b (y ∷ filter p xs) (filter p xs))
    here true is same = inl same
    here false is same = absurd (cc is)

    there : (b : Bool) → Has x (filter p xs) → Has x (cond b (y ∷ filter p xs) (filter p xs))
    there true later = inr later
    there false later = later

has_all : {X : Type 0} (p : X → Bool) (x : X) (xs : List X) → Has x (filter p xs) → Has x xs
has_all p x [] h = absurd h
has_all p x (y ∷ xs) h = which (p y) (has_all p x xs) h
  where
    which : (b : Bool) → (Has x (filter p xs) → Has x xs) → Has x (cond b (y ∷ filter p xs) (filter p xs)) → (y ≡ x) ⊎ Has x xs
    which true rest found = elim found [ inl e ↦ inl e | inr later ↦ inr (rest later) ]
    which false rest found = inr (rest found)

-- ---- the lines ascend

abbrev Ascends : ℕ → List OpenRequest → Type 0
Ascends n [] = Unit {0}
Ascends n (request ∷ later) = (n ≤ request.line) × Ascends (request.line + 1) later

lower : (m n : ℕ) (requests : List OpenRequest) → m ≤ n → Ascends n requests → Ascends m requests
lower m n [] h is = tt
lower m n (request ∷ later) h is = (omega (arith, is.0), is.1)

line_ascends : (n number : ℕ) (side : Side) (seq : ℕ) (kind : Kind) (b : Bool) (later : List OpenRequest) → n ≤ number → Ascends (number + 1) later → Ascends n (cond b [] (request_at number side seq kind) ++ later)
line_ascends n number side seq kind true later h is = lower n (number + 1) later (omega arith) is
line_ascends n number side seq (Request command arguments) false later h is = (h, is)
line_ascends n number side seq (Response request_seq success command message body) false later h is = lower n (number + 1) later (omega arith) is
line_ascends n number side seq (Event event body) false later h is = lower n (number + 1) later (omega arith) is
line_ascends n number side seq (Other tag) false later h is = lower n (number + 1) later (omega arith) is

open_ascends : (n : ℕ) (lines : List Line) → AreFrom n lines → Ascends n (open_requests lines)
open_ascends n [] are = tt
open_ascends n (line ∷ since) are =
    line_ascends n line.number line.side line.message.seq line.message.kind (is_answered line.side line.message.seq since) (open_requests since) are.0 (open_ascends (line.number + 1) since are.1)

above : (n : ℕ) (request : OpenRequest) (requests : List OpenRequest) → Ascends n requests → Has request requests → n ≤ request.line
above n request [] is h = absurd h
above n request (first ∷ later) is h = elim h [ inl e ↦ subst (λ (r : OpenRequest). n ≤ r.line) e is.0 | inr there ↦ omega (arith, is.0, above (first.line + 1) request later is.1 there) ]

one_a_line : (n : ℕ) (x y : OpenRequest) (requests : List OpenRequest) → Ascends n requests → Has x requests → Has y requests → x.line ≡ y.line → x ≡ y
one_a_line n x y [] is hx hy e = absurd hx
one_a_line n x y (first ∷ later) is hx hy e = elim hx [
  | inl ex ↦ elim hy [
    | inl ey ↦ sym ex ∙ ey
    | inr there ↦ let line = ap (λ (r : OpenRequest). r.line) ex in absurd (omega (arith, line, e, above (first.line + 1) y later is.1 there))
  ]
  | inr here ↦ elim hy [
    | inl ey ↦ let line = ap (λ (r : OpenRequest). r.line) ey in absurd (omega (arith, line, e, above (first.line + 1) x later is.1 here))
    | inr there ↦ one_a_line (first.line + 1) x y later is.1 here there e
  ]
]

-- ---- the last of a line

pub last_push : (n : ℕ) (requests : List OpenRequest) (request : OpenRequest) → last_at n (requests ++ request ∷ []) ≡ cond (request.line == n) (Some request) (last_at n requests)
last_push n [] request = refl
last_push n (first ∷ later) request = ap (λ o. option_or o (cond (first.line == n) (Some first) None)) (last_push n later request) ∙ step (request.line == n) (last_at n later) (cond (first.line == n) (Some first) None)
  where
    step : (b : Bool) (o p : Option OpenRequest) → option_or (cond b (Some request) o) p ≡ cond b (Some request) (option_or o p)
    step true o p = refl
    step false o p = refl

-- the map has the last of each line, one request later
same_key : (m n : ℕ) → is_eq (nat_cmp m n) ≡ (m == n)
same_key m n = by (nat_lt m n) (m == n) refl refl
  where
    by : (b c : Bool) → b ≡ nat_lt m n → c ≡ (m == n) → is_eq (cond b Less (cond c Equal Greater)) ≡ c
    by true true below same = absurd (grind (arith, nat_tests))
    by true false below same = refl
    by false true below same = refl
    by false false below same = refl

pub last_inserted : (n : ℕ) (requests : List OpenRequest) (request : OpenRequest) (old new : Option OpenRequest) → old ≡ last_at n requests → new ≡ cond (is_eq (nat_cmp request.line n)) (Some request) old → new ≡ last_at n (requests ++ request ∷ [])
last_inserted n requests request old new was is =
    is ∙ ap (λ b. cond b (Some request) old) (same_key request.line n) ∙ ap (λ o. cond (request.line == n) (Some request) o) was ∙ sym (last_push n requests request)

record Found (n : ℕ) (request : OpenRequest) (requests : List OpenRequest) : Type 0 where
  has : Has request requests
  line : request.line ≡ n

last_found : (n : ℕ) (request : OpenRequest) (requests : List OpenRequest) → last_at n requests ≡ Some request → Found n request requests
last_found n request [] e = absurd (cc e)
last_found n request (first ∷ later) e = by (last_at n later) refl (last_found n request later) e
  where
    alone : (b : Bool) → b ≡ (first.line == n) → cond b (Some first) None ≡ Some request → Found n request (first ∷ later)
    alone true test is = let same : first ≡ request = cc is in let line : first.line ≡ n = grind (arith, nat_tests) in record { has = inl same; line = sym (ap (λ (r : OpenRequest). r.line) same) ∙ line }
    alone false test is = absurd (cc is)

    by : (o : Option OpenRequest) → last_at n later ≡ o → (last_at n later ≡ Some request → Found n request later) → option_or o (cond (first.line == n) (Some first) None) ≡ Some request → Found n request (first ∷ later)
    by None none rest is = alone (first.line == n) refl is
    by (Some x) some rest is = let found = rest (some ∙ is) in record { has = inr found.has; line = found.line }

last_there : (n : ℕ) (request : OpenRequest) (requests : List OpenRequest) → Has request requests → request.line ≡ n → is_some (last_at n requests) ≡ true
last_there n request [] h e = absurd h
last_there n request (first ∷ later) h e = elim h [ inl same ↦ here (last_at n later) (first.line == n) (let line : first.line ≡ n = ap (λ (r : OpenRequest). r.line) same ∙ e in grind (arith, nat_tests)) | inr there ↦ later_one (last_at n later) (cond (first.line == n) (Some first) None) (last_there n request later there e) ]
  where
    here : (o : Option OpenRequest) (b : Bool) → b ≡ true → is_some (option_or o (cond b (Some first) None)) ≡ true
    here o false is = absurd (cc is)
    here None true is = refl
    here (Some x) true is = refl

    later_one : (o p : Option OpenRequest) → is_some o ≡ true → is_some (option_or o p) ≡ true
    later_one None p is = absurd (cc is)
    later_one (Some x) p is = refl

last_none : (n m : ℕ) (requests : List OpenRequest) → Ascends m requests → n < m → last_at n requests ≡ None
last_none n m requests is below = by (last_at n requests) refl
  where
    by : (o : Option OpenRequest) → last_at n requests ≡ o → o ≡ None
    by None e = refl
    by (Some request) e = let found = last_found n request requests e in absurd (omega (arith, found.line, above m request requests is found.has))

-- the same elements have the same last of each line
same_last : (n m : ℕ) (all requests : List OpenRequest) → Ascends m requests → ((r : OpenRequest) → Has r all → Has r requests) → ((r : OpenRequest) → Has r requests → Has r all) → last_at n all ≡ last_at n requests
same_last n m all requests is within whole = by (last_at n all) (last_at n requests) refl refl
  where
    missing : (request : OpenRequest) (xs : List OpenRequest) → Has request xs → request.line ≡ n → last_at n xs ≡ None → ⊥
    missing request xs has line none = let some = last_there n request xs has line in let wrong = ap is_some none in absurd (cc (some, wrong))

    by : (o p : Option OpenRequest) → last_at n all ≡ o → last_at n requests ≡ p → o ≡ p
    by None None eo ep = refl
    by None (Some y) eo ep = let found = last_found n y requests ep in absurd (missing y all (whole y found.has) found.line eo)
    by (Some x) None eo ep = let found = last_found n x all eo in absurd (missing x requests (within x found.has) found.line ep)
    by (Some x) (Some y) eo ep =
        let fx = last_found n x all eo in
        let fy = last_found n y requests ep in
        ap Some (one_a_line m x y requests is (within x fx.has) fy.has (fx.line ∙ sym fy.line))

-- ---- by lines

at_itself : (n : ℕ) → is_eq (nat_cmp n n) ≡ true
at_itself n = sym (ap is_eq (nat_cmp_is n n Equal refl))

at_other : (n k : ℕ) → n ≢ k → is_eq (nat_cmp n k) ≡ false
at_other n k apart = grind (arith, nat_tests)

below_less : (n k : ℕ) → n < k → nat_cmp n k ≡ Less
below_less n k h = sym (nat_cmp_is n k Less h)

abbrev Entries : Type 0
Entries = List (ℕ × OpenRequest)

head_at : (n : ℕ) (e : ℕ × OpenRequest) (es : Entries) → n ≡ e.0 → lookup (is_at (nat_cmp n)) (e ∷ es) ≡ Some e.1
head_at n e es same = ap (λ b. cond b (Some e.1) (lookup (is_at (nat_cmp n)) es)) (subst (λ k. is_eq (nat_cmp n k) ≡ true) same (at_itself n))

tail_at : (n : ℕ) (e : ℕ × OpenRequest) (es : Entries) → n ≢ e.0 → lookup (is_at (nat_cmp n)) (e ∷ es) ≡ lookup (is_at (nat_cmp n)) es
tail_at n e es apart = ap (λ b. cond b (Some e.1) (lookup (is_at (nat_cmp n)) es)) (at_other n e.0 apart)

not_below : (n : ℕ) (e : ℕ × OpenRequest) (es : Entries) → IsStrictlySortedBy nat_cmp (keys_of (e ∷ es)) → n < e.0 → lookup (is_at (nat_cmp n)) (e ∷ es) ≡ None
not_below n e es sorted below = lookup-none (is_at (nat_cmp n)) (e ∷ es) (none_below_head nat_cmp_total n e es sorted (below_less n e.0 below))

not_again : (e : ℕ × OpenRequest) (es : Entries) → IsStrictlySortedBy nat_cmp (keys_of (e ∷ es)) → lookup (is_at (nat_cmp e.0)) es ≡ None
not_again e es sorted = lookup-none (is_at (nat_cmp e.0)) es (none_past_head (eq_by_cmp_equiv nat_cmp_total) e.0 e es (IsDistinct-from_sorted nat_cmp (keys_of (e ∷ es)) sorted) (at_itself e.0))

first_last : (n m : ℕ) (request : OpenRequest) (later : List OpenRequest) → Ascends m (request ∷ later) → request.line ≡ n → last_at n (request ∷ later) ≡ Some request
first_last n m request later is e =
    ap (λ o. option_or o (cond (request.line == n) (Some request) None)) (last_none n (request.line + 1) later is.1 (omega (arith, e)))
    ∙ ap (λ b. cond b (Some request) None) (let test : (request.line == n) ≡ true = grind (arith, nat_tests) in test)

other_last : (n : ℕ) (request : OpenRequest) (later : List OpenRequest) → n ≢ request.line → last_at n (request ∷ later) ≡ last_at n later
other_last n request later apart =
    ap (λ b. option_or (last_at n later) (cond b (Some request) None)) (let test : (request.line == n) ≡ false = grind (arith, nat_tests) in test)
    ∙ or_none (last_at n later)
  where
    or_none : (o : Option OpenRequest) → option_or o None ≡ o
    or_none None = refl
    or_none (Some x) = refl

module _ (m : ℕ) (e : ℕ × OpenRequest) (es : Entries) (request : OpenRequest) (later : List OpenRequest) (sorted : IsStrictlySortedBy nat_cmp (keys_of (e ∷ es))) (is : Ascends m (request ∷ later))
    (each : (n : ℕ) → lookup (is_at (nat_cmp n)) (e ∷ es) ≡ last_at n (request ∷ later)) where
  ahead : request.line < e.0 → ⊥
  ahead below = let none = not_below request.line e es sorted below in let some = first_last request.line m request later is refl in let one = each request.line in absurd (cc (none, some, one))

  behind : e.0 < request.line → ⊥
  behind below = let some = head_at e.0 e es refl in let none = last_none e.0 request.line (request ∷ later) (omega arith, is.1) below in let one = each e.0 in absurd (cc (some, none, one))

  key : e.0 ≡ request.line
  key = omega (arith, ahead, behind)

  same_value : e.1 ≡ request
  same_value = let some = head_at e.0 e es refl in let other = first_last e.0 m request later is (sym key) in let one = each e.0 in cc (some, other, one)

  each_later : (n : ℕ) → lookup (is_at (nat_cmp n)) es ≡ last_at n later
  each_later n = by (n == e.0) refl
    where
      by : (b : Bool) → b ≡ (n == e.0) → lookup (is_at (nat_cmp n)) es ≡ last_at n later
      by true test =
          let at : n ≡ e.0 = grind (arith, nat_tests) in
          subst (λ k. lookup (is_at (nat_cmp k)) es ≡ last_at k later) (sym at) (not_again e es sorted ∙ sym (last_none e.0 (request.line + 1) later is.1 (omega (arith, key))))
      by false test =
          let apart : n ≢ e.0 = λ at. absurd (grind (arith, nat_tests)) in
          sym (tail_at n e es apart) ∙ each n ∙ other_last n request later (λ at. apart (at ∙ sym key))

pub values_are : (m : ℕ) (es : Entries) (requests : List OpenRequest) → IsStrictlySortedBy nat_cmp (keys_of es) → Ascends m requests → ((n : ℕ) → lookup (is_at (nat_cmp n)) es ≡ last_at n requests) → values_of es ≡ requests
values_are m [] [] sorted is each = refl
values_are m [] (request ∷ later) sorted is each = let some = first_last request.line m request later is refl in let none = each request.line in absurd (cc (some, none))
values_are m (e ∷ es) [] sorted is each = let some = head_at e.0 e es refl in let none = each e.0 in absurd (cc (some, none))
values_are m (e ∷ es) (request ∷ later) sorted is each =
    let first = same_value m e es request later sorted is each in
    let rest = values_are (request.line + 1) es later (sorted_tail nat_cmp e.0 (keys_of es) sorted) is.1 (each_later m e es request later sorted is each) in
    cc (first, rest)

-- ---- all that are kept

module _ {A : Type 0} where
  flat_has : (r : OpenRequest) (es : List (ℕ × Vec OpenRequest A)) → Has r (flat_map (λ v. v.items) (values_of es)) → (e : ℕ × Vec OpenRequest A) × Has e es × Has r e.1.items
  flat_has r [] h = absurd h
  flat_has r (e ∷ es) h = elim (has_either r e.1.items (flat_map (λ v. v.items) (values_of es)) h) [
    | inl here ↦ (e, inl refl, here)
    | inr there ↦ let found = flat_has r es there in (found.0, inr found.1, found.2)
  ]

  in_flat : (r : OpenRequest) (n : ℕ) (es : List (ℕ × Vec OpenRequest A)) → Has r (items_at (lookup (is_at (nat_cmp n)) es)) → Has r (flat_map (λ v. v.items) (values_of es))
  in_flat r n [] h = absurd h
  in_flat r n (e ∷ es) h = which (is_eq (nat_cmp n e.0)) (in_flat r n es) h
    where
      which : (b : Bool) → (Has r (items_at (lookup (is_at (nat_cmp n)) es)) → Has r (flat_map (λ v. v.items) (values_of es))) → Has r (items_at (cond b (Some e.1) (lookup (is_at (nat_cmp n)) es)))
          → Has r (e.1.items ++ flat_map (λ v. v.items) (values_of es))
      which true rest found = has_left r e.1.items (flat_map (λ v. v.items) (values_of es)) found
      which false rest found = has_right r e.1.items (flat_map (λ v. v.items) (values_of es)) (rest found)

module _ (waiting : Waiting) (side : Side) (lines : List Line) (is : AreWaiting waiting side lines) where
  kept_within : tree.IsOrdered nat_cmp waiting.requests → (r : OpenRequest) → Has r (all_kept waiting) → Has r (open_requests lines)
  kept_within ordered r h =
      let at = flat_has r waiting.requests.entries h in
      let found : tree.get nat_cmp waiting.requests at.0.0 ≡ Some at.0.1 =
      All-contains (λ e. tree.get nat_cmp waiting.requests e.0 ≡ Some e.1) waiting.requests.entries at.0 (All-found nat_cmp_total waiting.requests ordered) (contains at.0 waiting.requests.entries at.1)
      in
      let there : Has r (kept_at waiting at.0.0) = subst (λ o. Has r (items_at o)) (sym found) at.2 in
      has_all (is_open_as side at.0.0) r (open_requests lines) (subst (Has r) (is.kept at.0.0) there)

  kept_whole : (r : OpenRequest) → same_side side r.side ≡ true → Has r (open_requests lines) → Has r (all_kept waiting)
  kept_whole r same h =
      let number : (r.seq == r.seq) ≡ true = grind (arith, nat_tests) in
      let passes : is_open_as side r.seq r ≡ true = ap (λ b. b && (r.seq == r.seq)) same ∙ number in
      in_flat r r.seq waiting.requests.entries (subst (Has r) (sym (is.kept r.seq)) (has_kept (is_open_as side r.seq) r (open_requests lines) passes h))

module _ (pending : Pending) (lines : List Line) (is : ArePending pending lines) where
  within : tree.IsOrdered nat_cmp pending.client.requests → tree.IsOrdered nat_cmp pending.adapter.requests → (r : OpenRequest) → Has r (all_kept pending.client ++ all_kept pending.adapter) → Has r (open_requests lines)
  within client adapter r h = elim (has_either r (all_kept pending.client) (all_kept pending.adapter) h) [
    | inl here ↦ kept_within pending.client Client lines is.client client r here
    | inr there ↦ kept_within pending.adapter Adapter lines is.adapter adapter r there
  ]

  whole_of : (r : OpenRequest) (side : Side) → r.side ≡ side → Has r (open_requests lines) → Has r (all_kept pending.client ++ all_kept pending.adapter)
  whole_of r Client e h = has_left r (all_kept pending.client) (all_kept pending.adapter) (kept_whole pending.client Client lines is.client r (ap (same_side Client) e) h)
  whole_of r Adapter e h = has_right r (all_kept pending.client) (all_kept pending.adapter) (kept_whole pending.adapter Adapter lines is.adapter r (ap (same_side Adapter) e) h)

  whole : (r : OpenRequest) → Has r (open_requests lines) → Has r (all_kept pending.client ++ all_kept pending.adapter)
  whole r h = whole_of r r.side refl h

  pub in_order : tree.IsOrdered nat_cmp pending.client.requests → tree.IsOrdered nat_cmp pending.adapter.requests → AreFrom 1 lines → (by_line : BTreeMap ℕ OpenRequest) → IsInOrder (all_kept pending.client ++ all_kept pending.adapter) by_line
      → tree.values by_line ≡ open_requests lines
  in_order client adapter from by_line ordered =
      let ascends = open_ascends 1 lines from in
      values_are 1 by_line.entries (open_requests lines) ordered.ordered ascends
      (λ n. ordered.each n ∙ same_last n 1 (all_kept pending.client ++ all_kept pending.adapter) (open_requests lines) ascends (within client adapter) whole)

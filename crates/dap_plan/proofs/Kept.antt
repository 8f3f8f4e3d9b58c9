-- Kept requests with distinct numbers, and answers to some of them.
use Rattle.serde_json.specs.Data.{Data}
use Rattle.std.proofs.Common.{◌≡◌, ℕ, List, [], ◌∷◌, ◌++◌, Bool, true, false, Option, Some, None, refl, sym, ap, ◌∙◌, subst, append_assoc, arith, filter, true≢false, ◌≤◌, length}
use Rattle.std.specs.Prelude.{◌==◌, ◌||◌, not, find, if◌then◌else◌}
use Rattle.std.proofs.lemmas.Bool.Decides.{nat_tests}
use Rattle.std.proofs.lemmas.List.{map-append}
use Rattle.std.proofs.lemmas.List.Elements.{filter-append}
use Rattle.std.proofs.lemmas.List.Folds.{list_any-append}
use Rattle.dap_history.specs.History.{Asked, without_answered, has_request_seq}
use Rattle.dap_tables.specs.Outstanding.{Kept, contains_seq, without, HasDistinctSeqs, is_parked}
use Rattle.dap_tables.specs.declared.entry.Entry.{Entry as Request}
use Rattle.dap_plan.specs.Answering.{answered_by, with_seq, AnswersEach, open_after}
use Rattle.dap_plan.specs.Handling.{answer_each}
use Rattle.dap_outbox.specs.Draft.{Answer, Draft, reply, emit, ask, ask_named}
use Rattle.dap_history.specs.Requests.{asked_of, asks}
use Rattle.dap_message.specs.MessageParts.{AdapterEvent}
use Rattle.std.proofs.lemmas.List.Sums.{length-filter, count_by-le-length}

pub same-seq : (a b : ℕ) → (a == b) ≡ false → (b == a) ≡ false
same-seq a b h = grind (arith, nat_tests)

pub eqb-self : (n : ℕ) → (n == n) ≡ true
eqb-self n = grind (arith, nat_tests)

pub false-left : (a b : Bool) → (a || b) ≡ false → a ≡ false
false-left true b e = e
false-left false b e = refl

pub false-right : (a b : Bool) → (a || b) ≡ false → b ≡ false
false-right true b e = absurd (true≢false e)
false-right false b e = e

pub both-false : (a b : Bool) → a ≡ false → b ≡ false → (a || b) ≡ false
both-false true b e f = e
both-false false b e f = f

-- what is not kept is not parked
pub none-parked : (seq : ℕ) (ks : List Kept) → contains_seq seq ks ≡ false → is_parked seq ks ≡ false
none-parked seq [] h = refl
none-parked seq (k ∷ ks) h =
    rw (false-left (k.entry.seq == seq) (contains_seq seq ks) h) (none-parked seq ks (false-right (k.entry.seq == seq) (contains_seq seq ks) h))

-- no filter adds
pub length-filtered : {T : Type 0} (p : T → Bool) (xs : List T) → length (filter p xs) ≤ length xs
length-filtered p xs = rw (length-filter p xs) (count_by-le-length p xs)

pub asks-append : (xs ys : List Kept) → asks (xs ++ ys) ≡ asks xs ++ asks ys
asks-append xs ys = map-append (λ (k : Kept). asked_of k.entry) xs ys

pub contains-append : (seq : ℕ) (xs ys : List Kept) → contains_seq seq (xs ++ ys) ≡ (contains_seq seq xs || contains_seq seq ys)
contains-append seq xs ys = list_any-append (λ (k : Kept). k.entry.seq == seq) xs ys

-- ---- a number that is not kept

pub none-with : (seq : ℕ) (kept : List Kept) → contains_seq seq kept ≡ false → with_seq seq (asks kept) ≡ []
none-with seq [] h = refl
none-with seq (k ∷ kept) h =
    rw (false-left (k.entry.seq == seq) (contains_seq seq kept) h) (none-with seq kept (false-right (k.entry.seq == seq) (contains_seq seq kept) h))

pub all-left : (r : Request) (answer : Answer) (kept : List Kept) → contains_seq r.seq kept ≡ false → without_answered (answered_by (reply r answer)) (asks kept) ≡ asks kept
all-left r answer [] h = refl
all-left r answer (k ∷ kept) h =
    rw (false-left (k.entry.seq == r.seq) (contains_seq r.seq kept) h) (ap (λ (xs : List Asked). asked_of k.entry ∷ xs) (all-left r answer kept (false-right (k.entry.seq == r.seq) (contains_seq r.seq kept) h)))

pub all-without : (seq : ℕ) (kept : List Kept) → contains_seq seq kept ≡ false → without seq kept ≡ kept
all-without seq [] h = refl
all-without seq (k ∷ kept) h =
    rw (false-left (k.entry.seq == seq) (contains_seq seq kept) h) (ap (λ (xs : List Kept). k ∷ xs) (all-without seq kept (false-right (k.entry.seq == seq) (contains_seq seq kept) h)))

-- ---- one request among others

pub record IsApart (before : List Kept) (k : Kept) (after : List Kept) : Type 0 where
  pub not_before : contains_seq k.entry.seq before ≡ false
  pub not_after : contains_seq k.entry.seq after ≡ false
  pub rest : HasDistinctSeqs (before ++ after)

pub apart : (before : List Kept) (k : Kept) (after : List Kept) → HasDistinctSeqs (before ++ k ∷ after) → IsApart before k after
apart [] k after d = record { not_before = refl; not_after = d.0; rest = d.1 }
apart (x ∷ before) k after d =
    let ih = apart before k after d.1 in
    let split : (contains_seq x.entry.seq before || ((k.entry.seq == x.entry.seq) || contains_seq x.entry.seq after)) ≡ false = sym (contains-append x.entry.seq before (k ∷ after)) ∙ d.0 in
    let x_before = false-left (contains_seq x.entry.seq before) ((k.entry.seq == x.entry.seq) || contains_seq x.entry.seq after) split in
    let later = false-right (contains_seq x.entry.seq before) ((k.entry.seq == x.entry.seq) || contains_seq x.entry.seq after) split in
    let other = false-left (k.entry.seq == x.entry.seq) (contains_seq x.entry.seq after) later in
    let x_after = false-right (k.entry.seq == x.entry.seq) (contains_seq x.entry.seq after) later in
    record {
      not_before = both-false (x.entry.seq == k.entry.seq) (contains_seq k.entry.seq before) (same-seq k.entry.seq x.entry.seq other) ih.not_before;
      not_after = ih.not_after;
      rest = (contains-append x.entry.seq before after ∙ both-false (contains_seq x.entry.seq before) (contains_seq x.entry.seq after) x_before x_after, ih.rest);
    }

with-middle : (before : List Kept) (k : Kept) (after : List Kept) → IsApart before k after → with_seq k.entry.seq (asks (before ++ k ∷ after)) ≡ asked_of k.entry ∷ []
with-middle before k after a =
    ap (with_seq k.entry.seq) (asks-append before (k ∷ after))
    ∙ (filter-append (λ (q : Asked). q.seq == k.entry.seq) (asks before) (asks (k ∷ after))
    ∙ rw (none-with k.entry.seq before a.not_before, eqb-self k.entry.seq) (ap (λ (xs : List Asked). asked_of k.entry ∷ xs) (none-with k.entry.seq after a.not_after)))

left-middle : (answer : Answer) (before : List Kept) (k : Kept) (after : List Kept) → IsApart before k after → without_answered (answered_by (reply k.entry answer)) (asks (before ++ k ∷ after)) ≡ asks (before ++ after)
left-middle answer before k after a =
    ap (without_answered (answered_by (reply k.entry answer))) (asks-append before (k ∷ after))
    ∙ (filter-append (λ (q : Asked). not (has_request_seq q.seq (answered_by (reply k.entry answer)))) (asks before) (asks (k ∷ after))
    ∙ (rw (all-left k.entry answer before a.not_before, eqb-self k.entry.seq) (ap (λ (xs : List Asked). asks before ++ xs) (all-left k.entry answer after a.not_after))
    ∙ sym (asks-append before after)))

pub without-middle : (before : List Kept) (k : Kept) (after : List Kept) → IsApart before k after → without k.entry.seq (before ++ k ∷ after) ≡ before ++ after
without-middle before k after a =
    filter-append (λ (x : Kept). not (x.entry.seq == k.entry.seq)) before (k ∷ after)
    ∙ rw (all-without k.entry.seq before a.not_before, eqb-self k.entry.seq) (ap (λ (xs : List Kept). before ++ xs) (all-without k.entry.seq after a.not_after))

-- ---- drafts, what is open before them, and what is left

pub record Walked (ds : List Draft) (open_requests left : List Asked) : Type 0 where
  pub each : AnswersEach ds open_requests
  pub left_is : open_after ds open_requests ≡ left

pub walked-none : (open_requests : List Asked) → Walked [] open_requests open_requests
walked-none open_requests = record { each = tt; left_is = refl }

each-append : (ds es : List Draft) (open_requests : List Asked) → AnswersEach ds open_requests → AnswersEach es (open_after ds open_requests) → AnswersEach (ds ++ es) open_requests
each-append [] es open_requests e f = f
each-append (reply r answer ∷ ds) es open_requests e f = (e.0, each-append ds es (without_answered (answered_by (reply r answer)) open_requests) e.1 f)
each-append (emit event ∷ ds) es open_requests e f = each-append ds es (without_answered None open_requests) e f
each-append (ask ∷ ds) es open_requests e f = each-append ds es (without_answered None open_requests) e f
each-append (ask_named command arguments ∷ ds) es open_requests e f = each-append ds es (without_answered None open_requests) e f

after-append : (ds es : List Draft) (open_requests : List Asked) → open_after (ds ++ es) open_requests ≡ open_after es (open_after ds open_requests)
after-append [] es open_requests = refl
after-append (d ∷ ds) es open_requests = after-append ds es (without_answered (answered_by d) open_requests)

pub walked-append : (ds es : List Draft) (open_requests mid left : List Asked) → Walked ds open_requests mid → Walked es mid left → Walked (ds ++ es) open_requests left
walked-append ds es open_requests mid left w v =
    record {
      each = each-append ds es open_requests w.each (subst (λ (qs : List Asked). AnswersEach es qs) (sym w.left_is) v.each);
      left_is = after-append ds es open_requests ∙ (ap (open_after es) w.left_is ∙ v.left_is);
    }

pub all-open : (open_requests : List Asked) → without_answered None open_requests ≡ open_requests
all-open [] = refl
all-open (q ∷ qs) = ap (λ (xs : List Asked). q ∷ xs) (all-open qs)

-- an event answers none
pub walked-event : (event : AdapterEvent) (qs : List Asked) → Walked (emit event ∷ []) qs qs
walked-event event qs = record { each = tt; left_is = all-open qs }

-- nor does a request for a terminal
pub walked-ask : (qs : List Asked) → Walked (ask ∷ []) qs qs
walked-ask qs = record { each = tt; left_is = all-open qs }

pub walked-ask_named : (command : List ℕ) (arguments : Option Data) (qs : List Asked) → Walked (ask_named command arguments ∷ []) qs qs
walked-ask_named command arguments qs = record { each = tt; left_is = all-open qs }

pub walked-one : (answer : Answer) (before : List Kept) (k : Kept) (after : List Kept) → HasDistinctSeqs (before ++ k ∷ after) → Walked (reply k.entry answer ∷ []) (asks (before ++ k ∷ after)) (asks (before ++ after))
walked-one answer before k after d =
    let a = apart before k after d in
    record { each = (with-middle before k after a, tt); left_is = left-middle answer before k after a }

-- the same answer to those that pass a test
abbrev pub rejected : (Kept → Bool) → List Kept → List Kept
rejected p ks = filter (λ k. not (p k)) ks

walked-cons : (b : Bool) (answer : Answer) (before : List Kept) (k : Kept) (ks after some rest : List Kept)
    → HasDistinctSeqs (before ++ (k ∷ (ks ++ after)))
    → ((front : List Kept) → HasDistinctSeqs (front ++ (ks ++ after)) → Walked (answer_each answer some) (asks (front ++ (ks ++ after))) (asks (front ++ (rest ++ after))))
    → Walked (answer_each answer (if b then k ∷ some else some)) (asks (before ++ (k ∷ (ks ++ after)))) (asks (before ++ ((if not b then k ∷ rest else rest) ++ after)))
walked-cons true answer before k ks after some rest d ih =
    walked-append (reply k.entry answer ∷ []) (answer_each answer some) (asks (before ++ (k ∷ (ks ++ after)))) (asks (before ++ (ks ++ after))) (asks (before ++ (rest ++ after))) (walked-one answer before k (ks ++ after) d) (ih before (apart before k (ks ++ after) d).rest)
walked-cons false answer before k ks after some rest d ih =
    let moved : (before ++ k ∷ []) ++ (ks ++ after) ≡ before ++ (k ∷ (ks ++ after)) = append_assoc before (k ∷ []) (ks ++ after) in
    let left : (before ++ k ∷ []) ++ (rest ++ after) ≡ before ++ (k ∷ (rest ++ after)) = append_assoc before (k ∷ []) (rest ++ after) in
    let told = ih (before ++ k ∷ []) (subst (λ (xs : List Kept). HasDistinctSeqs xs) (sym moved) d) in
    let one = subst (λ (xs : List Kept). Walked (answer_each answer some) (asks xs) (asks ((before ++ k ∷ []) ++ (rest ++ after)))) moved told in
    subst (λ (xs : List Kept). Walked (answer_each answer some) (asks (before ++ (k ∷ (ks ++ after)))) (asks xs)) left one

pub walked-each : (p : Kept → Bool) (answer : Answer) (ks after before : List Kept) → HasDistinctSeqs (before ++ (ks ++ after)) → Walked (answer_each answer (filter p ks)) (asks (before ++ (ks ++ after))) (asks (before ++ (rejected p ks ++ after)))
walked-each p answer [] after before d = walked-none (asks (before ++ after))
walked-each p answer (k ∷ ks) after before d =
    walked-cons (p k) answer before k ks after (filter p ks) (rejected p ks) d (walked-each p answer ks after)

-- ---- the oldest

-- a request stands among those that are kept
pub record IsKept (kept : List Kept) (k : Kept) : Type 0 where
  pub before : List Kept
  pub after : List Kept
  pub split : kept ≡ before ++ k ∷ after

kept-here : (b : Bool) (x : Kept) (o : Option Kept) (ks : List Kept) (k : Kept) → (if b then Some x else o) ≡ Some k → (o ≡ Some k → IsKept ks k) → IsKept (x ∷ ks) k
kept-here true x o ks k e ih = record { before = []; after = ks; split = cc }
kept-here false x o ks k e ih = let more = ih e in record { before = x ∷ more.before; after = more.after; split = ap (λ (xs : List Kept). x ∷ xs) more.split }

pub kept-found : (p : Kept → Bool) (ks : List Kept) (k : Kept) → find p ks ≡ Some k → IsKept ks k
kept-found p [] k e = cc
kept-found p (x ∷ ks) k e = kept-here (p x) x (find p ks) ks k e (kept-found p ks k)

passes-here : (b : Bool) (p : Kept → Bool) (x : Kept) (o : Option Kept) (k : Kept) → p x ≡ b → (if b then Some x else o) ≡ Some k → (o ≡ Some k → p k ≡ true) → p k ≡ true
passes-here true p x o k h e ih = let same : x ≡ k = cc in subst (λ (y : Kept). p y ≡ true) same h
passes-here false p x o k h e ih = ih e

-- and it passes the test
pub found-passes : (p : Kept → Bool) (ks : List Kept) (k : Kept) → find p ks ≡ Some k → p k ≡ true
found-passes p [] k e = cc
found-passes p (x ∷ ks) k e = passes-here (p x) p x (find p ks) k refl e (found-passes p ks k)

pub distinct-without : (kept : List Kept) (k : Kept) → HasDistinctSeqs kept → IsKept kept k → HasDistinctSeqs (without k.entry.seq kept)
distinct-without kept k d i =
    let all = subst (λ (xs : List Kept). HasDistinctSeqs xs) i.split d in
    let a = apart i.before k i.after all in
    rw (i.split, without-middle i.before k i.after a) a.rest

pub walked-kept : (answer : Answer) (kept : List Kept) (k : Kept) → HasDistinctSeqs kept → IsKept kept k → Walked (reply k.entry answer ∷ []) (asks kept) (asks (without k.entry.seq kept))
walked-kept answer kept k d i =
    let all = subst (λ (xs : List Kept). HasDistinctSeqs xs) i.split d in
    let a = apart i.before k i.after all in
    rw (i.split, without-middle i.before k i.after a) (walked-one answer i.before k i.after all)

-- one more, with a new number
pub distinct-more : (kept : List Kept) (k : Kept) → HasDistinctSeqs kept → contains_seq k.entry.seq kept ≡ false → HasDistinctSeqs (kept ++ k ∷ [])
distinct-more [] k d h = (refl, tt)
distinct-more (x ∷ kept) k d h =
    let other = same-seq x.entry.seq k.entry.seq (false-left (x.entry.seq == k.entry.seq) (contains_seq k.entry.seq kept) h) in (
      contains-append x.entry.seq kept (k ∷ []) ∙ both-false (contains_seq x.entry.seq kept) ((k.entry.seq == x.entry.seq) || false) d.0 (both-false (k.entry.seq == x.entry.seq) false other refl),
      distinct-more kept k d.1 (false-right (x.entry.seq == k.entry.seq) (contains_seq k.entry.seq kept) h),
    )

contains-cons : (seq : ℕ) (b : Bool) (k : Kept) (ks : List Kept) → (k.entry.seq == seq) ≡ false → contains_seq seq ks ≡ false → contains_seq seq (if b then k ∷ ks else ks) ≡ false
contains-cons seq true k ks h e = both-false (k.entry.seq == seq) (contains_seq seq ks) h e
contains-cons seq false k ks h e = e

pub contains-filter : (seq : ℕ) (p : Kept → Bool) (ks : List Kept) → contains_seq seq ks ≡ false → contains_seq seq (filter p ks) ≡ false
contains-filter seq p [] h = refl
contains-filter seq p (k ∷ ks) h =
    contains-cons seq (p k) k (filter p ks) (false-left (k.entry.seq == seq) (contains_seq seq ks) h) (contains-filter seq p ks (false-right (k.entry.seq == seq) (contains_seq seq ks) h))

distinct-cons : (b : Bool) (k : Kept) (ks : List Kept) → contains_seq k.entry.seq ks ≡ false → HasDistinctSeqs ks → HasDistinctSeqs (if b then k ∷ ks else ks)
distinct-cons true k ks h d = (h, d)
distinct-cons false k ks h d = d

pub distinct-filter : (p : Kept → Bool) (ks : List Kept) → HasDistinctSeqs ks → HasDistinctSeqs (filter p ks)
distinct-filter p [] d = tt
distinct-filter p (k ∷ ks) d = distinct-cons (p k) k (filter p ks) (contains-filter k.entry.seq p ks d.0) (distinct-filter p ks d.1)

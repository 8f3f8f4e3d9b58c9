-- What is true of lists of requests in which no number comes twice.
use Rattle.std.proofs.Common.{◌≡◌, ℕ, ◌+◌, ◌≤◌, ◌<◌, List, [], ◌∷◌, ◌++◌, Bool, true, false, not, Option, Some, None, filter, length, refl, sym, ap, ◌∙◌, arith, subst, length-append, IsTrue, IsSome, IfSome, cond}
use Rattle.std.specs.Prelude.{◌==◌, ◌||◌, ◌&&◌, ◌≢◌, find, if◌then◌else◌}
use Rattle.std.specs.Option.{option_map}
use Rattle.std.proofs.lemmas.List.{append-nil, length-map}
use Rattle.std.proofs.lemmas.List.Elements.{filter-append}
use Rattle.std.proofs.lemmas.List.Folds.{list_any-append}
use Rattle.std.proofs.lemmas.Bool.Decides.{nat_tests}
use Rattle.dap_tables.specs.declared.entry.Entry.{Entry}
use Rattle.dap_tables.specs.Outstanding.{Kept, kept_with_mark, entries, contains_seq, entry_with, without, is_parked, with_mark, oldest_unparked, HasDistinctSeqs, IsOrderlyRequests}
use Rattle.dap_tables.specs.Ors.{or-false, or-left, or-right}

pub eqb-flip : (a b : ℕ) → (a == b) ≡ (b == a)
eqb-flip a b = grind (arith, nat_tests)

pub same-seq : (a b : ℕ) → (a == b) ≡ true → a ≡ b
same-seq a b h = grind (arith, nat_tests)

pub eqb-self : (n : ℕ) → (n == n) ≡ true
eqb-self n = grind (arith, nat_tests)

pub eqb-other : (a b : ℕ) → a ≢ b → (a == b) ≡ false
eqb-other a b h = grind (arith, nat_tests)

-- ---- a request that comes last, with a new number

pub HasDistinctSeqs-push : (ks : List Kept) (k : Kept) → HasDistinctSeqs ks → contains_seq k.entry.seq ks ≡ false → HasDistinctSeqs (ks ++ k ∷ [])
HasDistinctSeqs-push [] k d h = (refl, tt)
HasDistinctSeqs-push (x ∷ ks) k d h =
    let apart : (k.entry.seq == x.entry.seq) ≡ false = eqb-flip k.entry.seq x.entry.seq ∙ or-left (x.entry.seq == k.entry.seq) (contains_seq k.entry.seq ks) h in
    let one : contains_seq x.entry.seq (ks ++ k ∷ []) ≡ false =
    list_any-append (λ (q : Kept). q.entry.seq == x.entry.seq) ks (k ∷ []) ∙ or-false (contains_seq x.entry.seq ks) ((k.entry.seq == x.entry.seq) || false) d.0 (or-false (k.entry.seq == x.entry.seq) false apart refl) in
    (one, HasDistinctSeqs-push ks k d.1 (or-right (x.entry.seq == k.entry.seq) (contains_seq k.entry.seq ks) h))

pub IsOrderlyRequests-push : (room : ℕ) (ks : List Kept) (k : Kept) → IsOrderlyRequests (record { room = room; kept = ks }) → contains_seq k.entry.seq ks ≡ false → length ks < room → IsOrderlyRequests (record { room = room; kept = ks ++ k ∷ [] })
IsOrderlyRequests-push room ks k o h l = record { bound = simp length-append (omega arith); distinct = HasDistinctSeqs-push ks k o.distinct h }

or-true : (a b : Bool) → b ≡ true → (a || b) ≡ true
or-true true b h = refl
or-true false b h = h

pub contains_seq-push : (ks : List Kept) (k : Kept) → contains_seq k.entry.seq (ks ++ k ∷ []) ≡ true
contains_seq-push ks k =
    list_any-append (λ (q : Kept). q.entry.seq == k.entry.seq) ks (k ∷ []) ∙ or-true (contains_seq k.entry.seq ks) ((k.entry.seq == k.entry.seq) || false) (rw (eqb-self k.entry.seq))

-- what isn't kept stays out
pub without-absent : (seq : ℕ) (ks : List Kept) → contains_seq seq ks ≡ false → without seq ks ≡ ks
without-absent seq [] h = refl
without-absent seq (k ∷ ks) h = rw (or-left (k.entry.seq == seq) (contains_seq seq ks) h) (ap (λ (ys : List Kept). k ∷ ys) (without-absent seq ks (or-right (k.entry.seq == seq) (contains_seq seq ks) h)))

pub entry_with-absent : (seq : ℕ) (ks : List Kept) → contains_seq seq ks ≡ false → entry_with seq ks ≡ None
entry_with-absent seq [] h = refl
entry_with-absent seq (k ∷ ks) h = rw (or-left (k.entry.seq == seq) (contains_seq seq ks) h) (entry_with-absent seq ks (or-right (k.entry.seq == seq) (contains_seq seq ks) h))

pub without-push : (ks : List Kept) (k : Kept) → contains_seq k.entry.seq ks ≡ false → without k.entry.seq (ks ++ k ∷ []) ≡ ks
without-push ks k h = filter-append (λ (q : Kept). not (q.entry.seq == k.entry.seq)) ks (k ∷ []) ∙ rw (without-absent k.entry.seq ks h, eqb-self k.entry.seq) (append-nil ks)

pub entry_with-push : (ks : List Kept) (k : Kept) → contains_seq k.entry.seq ks ≡ false → entry_with k.entry.seq (ks ++ k ∷ []) ≡ Some k.entry
entry_with-push [] k h = rw (eqb-self k.entry.seq) refl
entry_with-push (x ∷ ks) k h = rw (or-left (x.entry.seq == k.entry.seq) (contains_seq k.entry.seq ks) h) (entry_with-push ks k (or-right (x.entry.seq == k.entry.seq) (contains_seq k.entry.seq ks) h))

-- ---- a request that is taken out

keeps-cons : (seq : ℕ) (b : Bool) (k : Kept) (ks : List Kept) → (k.entry.seq == seq) ≡ false → contains_seq seq ks ≡ false → contains_seq seq (cond b (k ∷ ks) ks) ≡ false
keeps-cons seq true k ks h e = or-false (k.entry.seq == seq) (contains_seq seq ks) h e
keeps-cons seq false k ks h e = e

contains_seq-filter : (seq : ℕ) (p : Kept → Bool) (ks : List Kept) → contains_seq seq ks ≡ false → contains_seq seq (filter p ks) ≡ false
contains_seq-filter seq p [] h = refl
contains_seq-filter seq p (k ∷ ks) h =
    keeps-cons seq (p k) k (filter p ks) (or-left (k.entry.seq == seq) (contains_seq seq ks) h) (contains_seq-filter seq p ks (or-right (k.entry.seq == seq) (contains_seq seq ks) h))

distinct-cons : (b : Bool) (k : Kept) (ks : List Kept) → contains_seq k.entry.seq ks ≡ false → HasDistinctSeqs ks → HasDistinctSeqs (cond b (k ∷ ks) ks)
distinct-cons true k ks h d = (h, d)
distinct-cons false k ks h d = d

pub HasDistinctSeqs-filter : (p : Kept → Bool) (ks : List Kept) → HasDistinctSeqs ks → HasDistinctSeqs (filter p ks)
HasDistinctSeqs-filter p [] d = tt
HasDistinctSeqs-filter p (k ∷ ks) d = distinct-cons (p k) k (filter p ks) (contains_seq-filter k.entry.seq p ks d.0) (HasDistinctSeqs-filter p ks d.1)

cond-length : (b : Bool) (k : Kept) (ks : List Kept) (n : ℕ) → length ks ≤ n → length (cond b (k ∷ ks) ks) ≤ n + 1
cond-length true k ks n h = omega arith
cond-length false k ks n h = omega arith

pub length-filter : (p : Kept → Bool) (ks : List Kept) → length (filter p ks) ≤ length ks
length-filter p [] = omega arith
length-filter p (k ∷ ks) = let h = cond-length (p k) k (filter p ks) (length ks) (length-filter p ks) in omega arith

pub IsOrderlyRequests-without : (room seq : ℕ) (ks : List Kept) → IsOrderlyRequests (record { room = room; kept = ks }) → IsOrderlyRequests (record { room = room; kept = without seq ks })
IsOrderlyRequests-without room seq ks o =
    let shorter = length-filter (λ (q : Kept). not (q.entry.seq == seq)) ks in
    let old = o.bound in
    record { bound = omega arith; distinct = HasDistinctSeqs-filter (λ (q : Kept). not (q.entry.seq == seq)) ks o.distinct }

gone-cases : (seq : ℕ) (k : Kept) (ks : List Kept) (b : Bool) → (k.entry.seq == seq) ≡ b → contains_seq seq ks ≡ false → contains_seq seq (cond (not b) (k ∷ ks) ks) ≡ false
gone-cases seq k ks true h e = e
gone-cases seq k ks false h e = or-false (k.entry.seq == seq) (contains_seq seq ks) h e

pub contains_seq-without : (seq : ℕ) (ks : List Kept) → contains_seq seq (without seq ks) ≡ false
contains_seq-without seq [] = refl
contains_seq-without seq (k ∷ ks) = gone-cases seq k (without seq ks) (k.entry.seq == seq) refl (contains_seq-without seq ks)

-- ---- a request that is looked for

seq-cases : (seq : ℕ) (e : Entry) (o : Option Entry) (b : Bool) → (e.seq == seq) ≡ b → IfSome o (λ x. x.seq ≡ seq) → IfSome (cond b (Some e) o) (λ x. x.seq ≡ seq)
seq-cases seq e o true h k = same-seq e.seq seq h
seq-cases seq e o false h k = k

pub entry_with-seq : (seq : ℕ) (ks : List Kept) → IfSome (entry_with seq ks) (λ e. e.seq ≡ seq)
entry_with-seq seq [] = tt
entry_with-seq seq (k ∷ ks) = seq-cases seq k.entry (entry_with seq ks) (k.entry.seq == seq) refl (entry_with-seq seq ks)

some-cases : (b c : Bool) (e : Entry) (o : Option Entry) → (IsSome o → c ≡ true) → IsSome (cond b (Some e) o) → (b || c) ≡ true
some-cases true c e o f h = refl
some-cases false c e o f h = f h

pub contains_from_entry_with : (seq : ℕ) (ks : List Kept) → IsSome (entry_with seq ks) → contains_seq seq ks ≡ true
contains_from_entry_with seq [] h = cc
contains_from_entry_with seq (k ∷ ks) h = some-cases (k.entry.seq == seq) (contains_seq seq ks) k.entry (entry_with seq ks) (contains_from_entry_with seq ks) h

back-cases : (b c : Bool) (e : Entry) (o : Option Entry) → (c ≡ true → IsSome o) → (b || c) ≡ true → IsSome (cond b (Some e) o)
back-cases true c e o f h = refl
back-cases false c e o f h = f h

pub entry_with_from_contains : (seq : ℕ) (ks : List Kept) → contains_seq seq ks ≡ true → IsSome (entry_with seq ks)
entry_with_from_contains seq [] h = cc
entry_with_from_contains seq (k ∷ ks) h = back-cases (k.entry.seq == seq) (contains_seq seq ks) k.entry (entry_with seq ks) (entry_with_from_contains seq ks) h

-- ---- marks

kept_with_mark-cases : (seq : ℕ) (mark : Bool) (b c d : Bool) (k : Kept) → c ≡ d → (((if b then kept_with_mark mark k else k).entry.seq == seq) || c) ≡ ((k.entry.seq == seq) || d)
kept_with_mark-cases seq mark true c d k h = ap (λ x. (k.entry.seq == seq) || x) h
kept_with_mark-cases seq mark false c d k h = ap (λ x. (k.entry.seq == seq) || x) h

pub contains_seq-with_mark : (q seq : ℕ) (mark : Bool) (ks : List Kept) → contains_seq q (with_mark seq mark ks) ≡ contains_seq q ks
contains_seq-with_mark q seq mark [] = refl
contains_seq-with_mark q seq mark (k ∷ ks) = kept_with_mark-cases q mark (k.entry.seq == seq) (contains_seq q (with_mark seq mark ks)) (contains_seq q ks) k (contains_seq-with_mark q seq mark ks)

mark-cases : (b mark : Bool) (k : Kept) (ks later : List Kept) → b ≡ false → later ≡ ks → (if b then kept_with_mark mark k else k) ∷ later ≡ k ∷ ks
mark-cases true mark k ks later h e = cc
mark-cases false mark k ks later h e = ap (λ (xs : List Kept). k ∷ xs) e

-- where no request has the number, none is marked
pub with_mark-absent : (seq : ℕ) (mark : Bool) (ks : List Kept) → contains_seq seq ks ≡ false → with_mark seq mark ks ≡ ks
with_mark-absent seq mark [] h = refl
with_mark-absent seq mark (k ∷ ks) h =
    mark-cases (k.entry.seq == seq) mark k ks (with_mark seq mark ks) (or-left (k.entry.seq == seq) (contains_seq seq ks) h)
    (with_mark-absent seq mark ks (or-right (k.entry.seq == seq) (contains_seq seq ks) h))

entry-kept_with_mark : (b mark : Bool) (k : Kept) → (if b then kept_with_mark mark k else k).entry ≡ k.entry
entry-kept_with_mark true mark k = refl
entry-kept_with_mark false mark k = refl

pub entries-with_mark : (seq : ℕ) (mark : Bool) (ks : List Kept) → entries (with_mark seq mark ks) ≡ entries ks
entries-with_mark seq mark [] = refl
entries-with_mark seq mark (k ∷ ks) = λ i. entry-kept_with_mark (k.entry.seq == seq) mark k i ∷ entries-with_mark seq mark ks i

pub HasDistinctSeqs-with_mark : (seq : ℕ) (mark : Bool) (ks : List Kept) → HasDistinctSeqs ks → HasDistinctSeqs (with_mark seq mark ks)
HasDistinctSeqs-with_mark seq mark [] d = tt
HasDistinctSeqs-with_mark seq mark (k ∷ ks) d =
    let same : (if k.entry.seq == seq then kept_with_mark mark k else k).entry ≡ k.entry = entry-kept_with_mark (k.entry.seq == seq) mark k in
    let new : contains_seq k.entry.seq (with_mark seq mark ks) ≡ false = contains_seq-with_mark k.entry.seq seq mark ks ∙ d.0 in
    (subst (λ (e : Entry). contains_seq e.seq (with_mark seq mark ks) ≡ false) (sym same) new, HasDistinctSeqs-with_mark seq mark ks d.1)

pub IsOrderlyRequests-with_mark : (room seq : ℕ) (mark : Bool) (ks : List Kept) → IsOrderlyRequests (record { room = room; kept = ks }) → IsOrderlyRequests (record { room = room; kept = with_mark seq mark ks })
IsOrderlyRequests-with_mark room seq mark ks o =
    record { bound = rw (length-map ks (λ (k : Kept). if k.entry.seq == seq then kept_with_mark mark k else k)) o.bound; distinct = HasDistinctSeqs-with_mark seq mark ks o.distinct }

-- ---- parked requests

and-left : (a b c d : Bool) → (b ≡ true → d ≡ true) → ((a && c) || b) ≡ true → (a || d) ≡ true
and-left true b c d f h = refl
and-left false b c d f h = f h

pub contains_from_is_parked : (seq : ℕ) (ks : List Kept) → is_parked seq ks ≡ true → contains_seq seq ks ≡ true
contains_from_is_parked seq [] h = cc
contains_from_is_parked seq (k ∷ ks) h = and-left (k.entry.seq == seq) (is_parked seq ks) k.parked (contains_seq seq ks) (contains_from_is_parked seq ks) h

and-absent : (a b c d : Bool) → a ≡ false → d ≡ false → ((a && c) || d) ≡ false
and-absent true b c d h e = cc
and-absent false b c d h e = e

pub is_parked-absent : (seq : ℕ) (ks : List Kept) → contains_seq seq ks ≡ false → is_parked seq ks ≡ false
is_parked-absent seq [] h = refl
is_parked-absent seq (k ∷ ks) h =
    and-absent (k.entry.seq == seq) false k.parked (is_parked seq ks) (or-left (k.entry.seq == seq) (contains_seq seq ks) h) (is_parked-absent seq ks (or-right (k.entry.seq == seq) (contains_seq seq ks) h))

oldest-cases : (p : Bool) (k : Kept) (ks : List Kept) (o : Option Kept) → k.parked ≡ p →
    IfSome (option_map (λ (x : Kept). x.entry.seq) o) (λ seq. IsTrue (contains_seq seq ks)) →
    IfSome (option_map (λ (x : Kept). x.entry.seq) (cond (not p) (Some k) o)) (λ seq. IsTrue (contains_seq seq (k ∷ ks)))
oldest-cases true k ks None e h = tt
oldest-cases true k ks (Some x) e h = or-true (k.entry.seq == x.entry.seq) (contains_seq x.entry.seq ks) h
oldest-cases false k ks o e h = rw (eqb-self k.entry.seq) refl

pub contains_from_oldest : (ks : List Kept) → IfSome (oldest_unparked ks) (λ seq. IsTrue (contains_seq seq ks))
contains_from_oldest [] = tt
contains_from_oldest (k ∷ ks) = oldest-cases k.parked k ks (find (λ (x : Kept). not x.parked) ks) refl (contains_from_oldest ks)

apart : (seq : ℕ) (k : Kept) (ks : List Kept) → contains_seq k.entry.seq ks ≡ false → contains_seq seq ks ≡ true → (k.entry.seq == seq) ≡ false
apart seq k ks h e = cases (k.entry.seq == seq) refl
  where
    cases : (b : Bool) → (k.entry.seq == seq) ≡ b → b ≡ false
    cases true f = let same : k.entry.seq ≡ seq = same-seq k.entry.seq seq f in absurd (cc)
    cases false f = refl

unparked-cases : (p : Bool) (k : Kept) (ks : List Kept) (o : Option Kept) → k.parked ≡ p → contains_seq k.entry.seq ks ≡ false →
    IfSome (option_map (λ (x : Kept). x.entry.seq) o) (λ seq. IsTrue (contains_seq seq ks)) →
    IfSome (option_map (λ (x : Kept). x.entry.seq) o) (λ seq. is_parked seq ks ≡ false) →
    IfSome (option_map (λ (x : Kept). x.entry.seq) (cond (not p) (Some k) o)) (λ seq. is_parked seq (k ∷ ks) ≡ false)
unparked-cases true k ks None e d g h = tt
unparked-cases true k ks (Some x) e d g h = and-absent (k.entry.seq == x.entry.seq) false k.parked (is_parked x.entry.seq ks) (apart x.entry.seq k ks d g) h
unparked-cases false k ks o e d g h = rw (e, eqb-self k.entry.seq) (is_parked-absent k.entry.seq ks d)

pub unparked_from_oldest : (ks : List Kept) → HasDistinctSeqs ks → IfSome (oldest_unparked ks) (λ seq. is_parked seq ks ≡ false)
unparked_from_oldest [] d = tt
unparked_from_oldest (k ∷ ks) d =
    unparked-cases k.parked k ks (find (λ (x : Kept). not x.parked) ks) refl d.0 (contains_from_oldest ks) (unparked_from_oldest ks d.1)

and-kept_with_mark : (seq : ℕ) (mark : Bool) (k : Kept) (b : Bool) → (k.entry.seq == seq) ≡ b → (((if b then kept_with_mark mark k else k).entry.seq == seq) && (if b then kept_with_mark mark k else k).parked) ≡ (b && mark)
and-kept_with_mark seq mark k true e = rw e refl
and-kept_with_mark seq mark k false e = rw e refl

all-kept_with_mark : (seq : ℕ) (mark : Bool) (ks : List Kept) → is_parked seq (with_mark seq mark ks) ≡ (contains_seq seq ks && mark)
all-kept_with_mark seq mark [] = refl
all-kept_with_mark seq mark (k ∷ ks) = rw (and-kept_with_mark seq mark k (k.entry.seq == seq) refl, all-kept_with_mark seq mark ks) (both (k.entry.seq == seq) (contains_seq seq ks) mark)
  where
    both : (a b m : Bool) → ((a && m) || (b && m)) ≡ ((a || b) && m)
    both true true true = refl
    both true true false = refl
    both true false true = refl
    both true false false = refl
    both false b m = refl

pub is_parked-park : (seq : ℕ) (ks : List Kept) → contains_seq seq ks ≡ true → is_parked seq (with_mark seq true ks) ≡ true
is_parked-park seq ks h = all-kept_with_mark seq true ks ∙ rw h

pub is_parked-unpark : (seq : ℕ) (ks : List Kept) → is_parked seq (with_mark seq false ks) ≡ false
is_parked-unpark seq ks = all-kept_with_mark seq false ks ∙ none (contains_seq seq ks)
  where
    none : (a : Bool) → (a && false) ≡ false
    none true = refl
    none false = refl

-- ---- requests that pass a test are given up, the oldest first

found-cases : (b c : Bool) (n seq : ℕ) → b ≡ true → n ≡ seq → ((n == seq) || c) ≡ true
found-cases b c n seq h e = rw (e, eqb-self seq) refl

contains_found : (p : Kept → Bool) (seq : ℕ) (ks : List Kept) → option_map (λ (x : Kept). x.entry.seq) (find p ks) ≡ Some seq → contains_seq seq ks ≡ true
contains_found p seq [] h = cc
contains_found p seq (k ∷ ks) h = by (p k) (contains_found p seq ks) h
  where
    by : (b : Bool) → (option_map (λ (x : Kept). x.entry.seq) (find p ks) ≡ Some seq → contains_seq seq ks ≡ true) → option_map (λ (x : Kept). x.entry.seq) (cond b (Some k) (find p ks)) ≡ Some seq → ((k.entry.seq == seq) || contains_seq seq ks) ≡ true
    by true rest e = let same : k.entry.seq ≡ seq = cc in found-cases true (contains_seq seq ks) k.entry.seq seq refl same
    by false rest e = or-true (k.entry.seq == seq) (contains_seq seq ks) (rest e)

-- those that do not pass
abbrev pub rejected : (Kept → Bool) → List Kept → List Kept
rejected p ks = filter (λ k. not (p k)) ks

-- without the oldest that passes, they stay
pub rejected-without : (p : Kept → Bool) (seq : ℕ) (ks : List Kept) → HasDistinctSeqs ks → option_map (λ (x : Kept). x.entry.seq) (find p ks) ≡ Some seq → rejected p (without seq ks) ≡ rejected p ks
rejected-without p seq [] d h = refl
rejected-without p seq (k ∷ ks) d h = by (p k) refl (rejected-without p seq ks d.1) h
  where
    by : (b : Bool) → p k ≡ b → (option_map (λ (x : Kept). x.entry.seq) (find p ks) ≡ Some seq → rejected p (without seq ks) ≡ rejected p ks) → option_map (λ (x : Kept). x.entry.seq) (cond b (Some k) (find p ks)) ≡ Some seq → rejected p (cond (not (k.entry.seq == seq)) (k ∷ without seq ks) (without seq ks)) ≡ cond (not (p k)) (k ∷ rejected p ks) (rejected p ks)
    by true e rest h =
        let same : k.entry.seq ≡ seq = cc in
        let yes : (k.entry.seq == seq) ≡ true = ap (λ (n : ℕ). n == seq) same ∙ eqb-self seq in
        let gone : without seq ks ≡ ks = without-absent seq ks (ap (λ (n : ℕ). contains_seq n ks) (sym same) ∙ d.0) in
        ap (λ (b : Bool). rejected p (cond (not b) (k ∷ without seq ks) (without seq ks))) yes
        ∙ ap (λ (xs : List Kept). rejected p xs) gone
        ∙ sym (ap (λ (b : Bool). cond (not b) (k ∷ rejected p ks) (rejected p ks)) e)
    by false e rest h =
        let no : (k.entry.seq == seq) ≡ false = apart seq k ks d.0 (contains_found p seq ks h) in
        ap (λ (b : Bool). rejected p (cond (not b) (k ∷ without seq ks) (without seq ks))) no
        ∙ ap (λ (xs : List Kept). cond (not (p k)) (k ∷ xs) xs) (rest h)

-- where none passes, none goes
pub rejected-all : (p : Kept → Bool) (ks : List Kept) → option_map (λ (x : Kept). x.entry.seq) (find p ks) ≡ None → rejected p ks ≡ ks
rejected-all p [] h = refl
rejected-all p (k ∷ ks) h = by (p k) (rejected-all p ks) h
  where
    by : (b : Bool) → (option_map (λ (x : Kept). x.entry.seq) (find p ks) ≡ None → rejected p ks ≡ ks) → option_map (λ (x : Kept). x.entry.seq) (cond b (Some k) (find p ks)) ≡ None → cond (not b) (k ∷ rejected p ks) (rejected p ks) ≡ k ∷ ks
    by true rest e = cc
    by false rest e = ap (λ (xs : List Kept). k ∷ xs) (rest e)

shorter-cases : (b : Bool) (n : ℕ) (k : Kept) (ks : List Kept) → length ks ≤ n → (b ≡ false → length ks < n) → length (cond (not b) (k ∷ ks) ks) < n + 1
shorter-cases true n k ks h f = omega arith
shorter-cases false n k ks h f = let less = f refl in omega arith

-- one request less is kept
pub length-without_one : (p : Kept → Bool) (seq : ℕ) (ks : List Kept) → option_map (λ (x : Kept). x.entry.seq) (find p ks) ≡ Some seq → length (without seq ks) < length ks
length-without_one p seq ks h = fewer seq ks (contains_found p seq ks h)
  where
    back : (b c : Bool) → (b || c) ≡ true → b ≡ false → c ≡ true
    back true c h e = cc
    back false c h e = h

    fewer : (seq : ℕ) (ks : List Kept) → contains_seq seq ks ≡ true → length (without seq ks) < length ks
    fewer seq [] h = cc
    fewer seq (k ∷ ks) h =
        let most = length-filter (λ (q : Kept). not (q.entry.seq == seq)) ks in
        let less = shorter-cases (k.entry.seq == seq) (length ks) k (without seq ks) most (λ e. fewer seq ks (back (k.entry.seq == seq) (contains_seq seq ks) h e)) in
        omega arith

pub ruleset marking = (entries-with_mark, is_parked-park, is_parked-unpark)

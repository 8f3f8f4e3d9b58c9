-- The request that a response answers, among those that wait.
use Rattle.std.proofs.Common.{◌≡◌, ℕ, List, [], ◌∷◌, ◌++◌, Bool, true, false, Some, None, refl, ap, ◌∙◌, subst, arith, filter, true≢false}
use Rattle.std.specs.Prelude.{◌==◌, ◌||◌, not, cond}
use Rattle.std.proofs.lemmas.Bool.Decides.{nat_tests}
use Rattle.std.proofs.lemmas.Bool.{eqb-true}
use Rattle.std.proofs.lemmas.List.{append-nil, map-append}
use Rattle.dap_history.specs.History.{Asked, Answered, without_answered}
use Rattle.dap_tables.specs.Outstanding.{Kept, contains_seq, entry_with, without, HasDistinctSeqs}
use Rattle.dap_tables.specs.declared.entry.Entry.{Entry as Request}
use Rattle.dap_history.specs.Requests.{asked_of, asks}

pub eqb-self : (n : ℕ) → (n == n) ≡ true
eqb-self n = grind (arith, nat_tests)

pub false-left : (a b : Bool) → (a || b) ≡ false → a ≡ false
false-left true b e = e
false-left false b e = refl

pub false-right : (a b : Bool) → (a || b) ≡ false → b ≡ false
false-right true b e = absurd (true≢false e)
false-right false b e = e

pub all_left : (open_requests : List Asked) → without_answered None open_requests ≡ open_requests
all_left [] = refl
all_left (q ∷ qs) = ap (λ (xs : List Asked). q ∷ xs) (all_left qs)

pub asks-append : (xs ys : List Kept) → asks (xs ++ ys) ≡ asks xs ++ asks ys
asks-append xs ys = map-append (λ (k : Kept). asked_of k.entry) xs ys

-- ---- the requests of a number

abbrev pub with_seq : ℕ → List Asked → List Asked
with_seq seq open_requests = filter (λ q. q.seq == seq) open_requests

pub none-with : (seq : ℕ) (kept : List Kept) → contains_seq seq kept ≡ false → with_seq seq (asks kept) ≡ []
none-with seq [] h = refl
none-with seq (k ∷ kept) h =
    rw (false-left (k.entry.seq == seq) (contains_seq seq kept) h) (none-with seq kept (false-right (k.entry.seq == seq) (contains_seq seq kept) h))

-- the first one, if it has the number
found-if : (b : Bool) (seq : ℕ) (k : Kept) (kept : List Kept) (r : Request) → (k.entry.seq == seq) ≡ b → contains_seq k.entry.seq kept ≡ false
    → (entry_with seq kept ≡ Some r → with_seq seq (asks kept) ≡ asked_of r ∷ [])
    → cond b (Some k.entry) (entry_with seq kept) ≡ Some r
    → cond b (asked_of k.entry ∷ with_seq seq (asks kept)) (with_seq seq (asks kept)) ≡ asked_of r ∷ []
found-if true seq k kept r is apart ih e =
    let same : k.entry ≡ r = cc in
    let number : k.entry.seq ≡ seq = eqb-true k.entry.seq seq is in
    let none : with_seq seq (asks kept) ≡ [] = none-with seq kept (subst (λ n. contains_seq n kept ≡ false) number apart) in
    ap (λ (xs : List Asked). asked_of k.entry ∷ xs) none ∙ ap (λ (x : Request). asked_of x ∷ []) same
found-if false seq k kept r is apart ih e = ih e

pub found : (seq : ℕ) (kept : List Kept) (r : Request) → HasDistinctSeqs kept → entry_with seq kept ≡ Some r → with_seq seq (asks kept) ≡ asked_of r ∷ []
found seq [] r d e = cc
found seq (k ∷ kept) r d e =
    let b : Bool = k.entry.seq == seq in
    found-if (k.entry.seq == seq) seq k kept r refl d.0 (found seq kept r d.1) e

-- ---- what is left without it

without-if : (b : Bool) (k : Kept) (qs : List Asked) (kept : List Kept) → qs ≡ asks kept → cond (not b) (asked_of k.entry ∷ qs) qs ≡ asks (cond (not b) (k ∷ kept) kept)
without-if true k qs kept e = e
without-if false k qs kept e = ap (λ (xs : List Asked). asked_of k.entry ∷ xs) e

pub left-without : (a : Answered) (kept : List Kept) → without_answered (Some a) (asks kept) ≡ asks (without a.request_seq kept)
left-without a [] = refl
left-without a (k ∷ kept) = without-if (k.entry.seq == a.request_seq) k (without_answered (Some a) (asks kept)) (without a.request_seq kept) (left-without a kept)

-- ---- a request whose number is new, behind those that wait

same-if : (b : Bool) (k : Kept) (kept : List Kept) → b ≡ false → cond (not b) (k ∷ kept) kept ≡ k ∷ kept
same-if true k kept e = absurd (true≢false e)
same-if false k kept e = refl

-- nothing is left out where no request has the number
pub without-none : (seq : ℕ) (kept : List Kept) → contains_seq seq kept ≡ false → without seq kept ≡ kept
without-none seq [] h = refl
without-none seq (k ∷ kept) h =
    ap (λ (xs : List Kept). cond (not (k.entry.seq == seq)) (k ∷ xs) xs) (without-none seq kept (false-right (k.entry.seq == seq) (contains_seq seq kept) h))
    ∙ same-if (k.entry.seq == seq) k kept (false-left (k.entry.seq == seq) (contains_seq seq kept) h)

filter-if : {A : Type 0} (b : Bool) (x : A) (xs ys zs : List A) → xs ≡ ys ++ zs → cond b (x ∷ xs) xs ≡ cond b (x ∷ ys) ys ++ zs
filter-if true x xs ys zs e = ap (λ (l : List _). x ∷ l) e
filter-if false x xs ys zs e = e

filter-append : {A : Type 0} (p : A → Bool) (xs ys : List A) → filter p (xs ++ ys) ≡ filter p xs ++ filter p ys
filter-append p [] ys = refl
filter-append p (x ∷ xs) ys = filter-if (p x) x (filter p (xs ++ ys)) (filter p xs) (filter p ys) (filter-append p xs ys)

-- of all with it, the new one alone has its number, and without it the others are left
pub new-alone : (q : Asked) (kept : List Kept) → contains_seq q.seq kept ≡ false → filter (λ p. p.seq == q.seq) (asks kept ++ q ∷ []) ≡ q ∷ []
new-alone q kept h =
    filter-append (λ p. p.seq == q.seq) (asks kept) (q ∷ [])
    ∙ ap (λ (xs : List Asked). xs ++ filter (λ p. p.seq == q.seq) (q ∷ [])) (none-with q.seq kept h) ∙ rw (eqb-self q.seq) refl

pub new-gone : (q : Asked) (a : Answered) (kept : List Kept) → a.request_seq ≡ q.seq → contains_seq q.seq kept ≡ false → without_answered (Some a) (asks kept ++ q ∷ []) ≡ asks kept
new-gone q a kept same h =
    filter-append (λ p. not (p.seq == a.request_seq)) (asks kept) (q ∷ [])
    ∙ ap (λ (xs : List Asked). without_answered (Some a) (asks kept) ++ xs) (rw same (rw (eqb-self q.seq) refl))
    ∙ append-nil (without_answered (Some a) (asks kept))
    ∙ left-without a kept ∙ ap asks (ap (λ n. without n kept) same ∙ without-none q.seq kept h)

-- A request that is handled waits for no turn any more: fewer are left to handle.
use Rattle.std.proofs.Common.{filter, ◌≡◌, ℕ, ◌<◌, ◌≤◌, List, [], ◌∷◌, ◌++◌, Bool, true, false, cond, length, refl, sym, ◌∙◌, subst, arith, true≢false}
use Rattle.std.specs.Prelude.{◌==◌, ◌&&◌, ◌||◌, not, if◌then◌else◌}
use Rattle.std.proofs.lemmas.List.Folds.{list_any-append}
use Rattle.dap_tables.specs.Outstanding.{Kept, contains_seq, is_parked, without, with_mark, kept_with_mark, unparked_ones, HasDistinctSeqs}
use Rattle.dap_outbox.specs.Waiting.{waits_to_start, not_starting_ones}
use Rattle.dap_plan.specs.Session.{Session, to_handle}
use Rattle.dap_plan.proofs.Kept.{IsKept, IsApart, apart, contains-append, eqb-self, both-false, none-parked, length-filtered}

-- ---- one request more at the front

at-most : (p : Bool) (k : Kept) (xs : List Kept) (n : ℕ) → n ≤ length xs → n ≤ length (cond p (k ∷ xs) xs)
at-most true k xs n h = omega arith
at-most false k xs n h = h

both-at-most : (p : Bool) (k l : Kept) (xs ys : List Kept) → length xs ≤ length ys → length (cond p (k ∷ xs) xs) ≤ length (cond p (l ∷ ys) ys)
both-at-most true k l xs ys h = omega arith
both-at-most false k l xs ys h = h

both-less : (p : Bool) (k l : Kept) (xs ys : List Kept) → length xs < length ys → length (cond p (k ∷ xs) xs) < length (cond p (l ∷ ys) ys)
both-less true k l xs ys h = omega arith
both-less false k l xs ys h = h

-- ---- without a request

without-at : (same : Bool) (k : Kept) (xs ys : List Kept) → to_handle xs ≤ to_handle ys → to_handle (cond (not same) (k ∷ xs) xs) ≤ to_handle (k ∷ ys)
without-at true k xs ys h = at-most (not k.parked) k (unparked_ones ys) (to_handle xs) h
without-at false k xs ys h = both-at-most (not k.parked) k k (unparked_ones xs) (unparked_ones ys) h

without-at-most : (seq : ℕ) (kept : List Kept) → to_handle (without seq kept) ≤ to_handle kept
without-at-most seq [] = omega arith
without-at-most seq (k ∷ kept) = without-at (k.entry.seq == seq) k (without seq kept) kept (without-at-most seq kept)

first-unparked : (p : Bool) (k : Kept) (xs : List Kept) (n : ℕ) (later : Bool) → (p || later) ≡ false → n ≤ length xs → n < length (cond (not p) (k ∷ xs) xs)
first-unparked true k xs n later h l = absurd (true≢false h)
first-unparked false k xs n later h l = omega arith

fewer-at : (same : Bool) (k : Kept) (xs ys : List Kept) (has parked : Bool) → (same || has) ≡ true → ((same && k.parked) || parked) ≡ false → to_handle xs ≤ to_handle ys → (has ≡ true → parked ≡ false → to_handle xs < to_handle ys)
    → to_handle (cond (not same) (k ∷ xs) xs) < to_handle (k ∷ ys)
fewer-at true k xs ys has parked c u most less = first-unparked k.parked k (unparked_ones ys) (to_handle xs) parked u most
fewer-at false k xs ys has parked c u most less = both-less (not k.parked) k k (unparked_ones xs) (unparked_ones ys) (less c u)

fewer-without : (seq : ℕ) (kept : List Kept) → contains_seq seq kept ≡ true → is_parked seq kept ≡ false → to_handle (without seq kept) < to_handle kept
fewer-without seq [] c u = absurd (true≢false (sym c))
fewer-without seq (k ∷ kept) c u =
    fewer-at (k.entry.seq == seq) k (without seq kept) kept (contains_seq seq kept) (is_parked seq kept) c u (without-at-most seq kept) (fewer-without seq kept)

-- ---- parked

kept_with_mark-at : (same : Bool) (k : Kept) (xs ys : List Kept) → to_handle xs ≤ to_handle ys → to_handle ((if same then kept_with_mark true k else k) ∷ xs) ≤ to_handle (k ∷ ys)
kept_with_mark-at true k xs ys h = at-most (not k.parked) k (unparked_ones ys) (to_handle xs) h
kept_with_mark-at false k xs ys h = both-at-most (not k.parked) k k (unparked_ones xs) (unparked_ones ys) h

kept_with_mark-at-most : (seq : ℕ) (kept : List Kept) → to_handle (with_mark seq true kept) ≤ to_handle kept
kept_with_mark-at-most seq [] = omega arith
kept_with_mark-at-most seq (k ∷ kept) = kept_with_mark-at (k.entry.seq == seq) k (with_mark seq true kept) kept (kept_with_mark-at-most seq kept)

parks-at : (same : Bool) (k : Kept) (xs ys : List Kept) (has parked : Bool) → (same || has) ≡ true → ((same && k.parked) || parked) ≡ false → to_handle xs ≤ to_handle ys → (has ≡ true → parked ≡ false → to_handle xs < to_handle ys)
    → to_handle ((if same then kept_with_mark true k else k) ∷ xs) < to_handle (k ∷ ys)
parks-at true k xs ys has parked c u most less = first-unparked k.parked k (unparked_ones ys) (to_handle xs) parked u most
parks-at false k xs ys has parked c u most less = both-less (not k.parked) k k (unparked_ones xs) (unparked_ones ys) (less c u)

fewer-kept_with_mark : (seq : ℕ) (kept : List Kept) → contains_seq seq kept ≡ true → is_parked seq kept ≡ false → to_handle (with_mark seq true kept) < to_handle kept
fewer-kept_with_mark seq [] c u = absurd (true≢false (sym c))
fewer-kept_with_mark seq (k ∷ kept) c u =
    parks-at (k.entry.seq == seq) k (with_mark seq true kept) kept (contains_seq seq kept) (is_parked seq kept) c u (kept_with_mark-at-most seq kept) (fewer-kept_with_mark seq kept)

-- ---- none, and without those that wait to start

unparked-at-most : (kept : List Kept) → to_handle kept ≤ length kept
unparked-at-most kept = length-filtered (λ (k : Kept). not k.parked) kept

starting-more : (p w : Bool) (k : Kept) (xs ys : List Kept) → length xs ≤ length ys → length (if p then (if w then k ∷ xs else xs) else xs) ≤ length (if w then k ∷ ys else ys)
starting-more true true k xs ys h = omega arith
starting-more true false k xs ys h = h
starting-more false true k xs ys h = omega arith
starting-more false false k xs ys h = h

unparked-passing : (p : Bool) (k : Kept) (xs ys : List Kept) → to_handle xs ≤ to_handle ys → to_handle (if p then k ∷ xs else xs) ≤ length (if not k.parked then k ∷ unparked_ones ys else unparked_ones ys)
unparked-passing true k xs ys h = starting-more true (not k.parked) k (unparked_ones xs) (unparked_ones ys) h
unparked-passing false k xs ys h = starting-more false (not k.parked) k (unparked_ones xs) (unparked_ones ys) h

-- no filter adds to them
unparked-filtered : (p : Kept → Bool) (kept : List Kept) → to_handle (filter p kept) ≤ to_handle kept
unparked-filtered p [] = omega arith
unparked-filtered p (k ∷ kept) = unparked-passing (p k) k (filter p kept) kept (unparked-filtered p kept)

starting-fewer : (seq : ℕ) (kept : List Kept) → contains_seq seq kept ≡ true → is_parked seq kept ≡ false → to_handle (not_starting_ones (without seq kept)) < to_handle kept
starting-fewer seq kept c u = let h = fewer-without seq kept c u in let m = unparked-filtered (λ (k : Kept). not (waits_to_start k)) (without seq kept) in omega arith

-- ---- the request that is handled

-- it is kept, and not parked
pub record IsHandled (s : Session) (k : Kept) : Type 0 where
  pub kept : IsKept s.kept k
  pub unparked : k.parked ≡ false

any-right : (a b : Bool) → b ≡ true → (a || b) ≡ true
any-right true b h = refl
any-right false b h = h

pub middle-contained : (before : List Kept) (k : Kept) (after : List Kept) → contains_seq k.entry.seq (before ++ k ∷ after) ≡ true
middle-contained before k after =
    contains-append k.entry.seq before (k ∷ after) ∙ any-right (contains_seq k.entry.seq before) (contains_seq k.entry.seq (k ∷ after)) (rw (eqb-self k.entry.seq) refl)

middle-unparked : (before : List Kept) (k : Kept) (after : List Kept) → IsApart before k after → k.parked ≡ false → is_parked k.entry.seq (before ++ k ∷ after) ≡ false
middle-unparked before k after a h =
    list_any-append (λ (x : Kept). (x.entry.seq == k.entry.seq) && x.parked) before (k ∷ after)
    ∙ both-false (is_parked k.entry.seq before) (is_parked k.entry.seq (k ∷ after)) (none-parked k.entry.seq before a.not_before) (rw (h, eqb-self k.entry.seq) (none-parked k.entry.seq after a.not_after))

pub is-contained : (s : Session) (k : Kept) → IsHandled s k → contains_seq k.entry.seq s.kept ≡ true
is-contained s k i = rw i.kept.split (middle-contained i.kept.before k i.kept.after)

pub is-unparked : (s : Session) (k : Kept) → HasDistinctSeqs s.kept → IsHandled s k → is_parked k.entry.seq s.kept ≡ false
is-unparked s k d i =
    let all = subst (λ (xs : List Kept). HasDistinctSeqs xs) i.kept.split d in
    rw i.kept.split (middle-unparked i.kept.before k i.kept.after (apart i.kept.before k i.kept.after all) i.unparked)

-- ---- what is left to handle once it is

-- where it is kept no more
pub fewer-handled : (s : Session) (k : Kept) → HasDistinctSeqs s.kept → IsHandled s k → to_handle (without k.entry.seq s.kept) < to_handle s.kept
fewer-handled s k d i = fewer-without k.entry.seq s.kept (is-contained s k i) (is-unparked s k d i)

-- where it is parked
pub fewer-park : (s : Session) (k : Kept) → HasDistinctSeqs s.kept → IsHandled s k → to_handle (with_mark k.entry.seq true s.kept) < to_handle s.kept
fewer-park s k d i = fewer-kept_with_mark k.entry.seq s.kept (is-contained s k i) (is-unparked s k d i)

-- where those that wait to start are kept no more either
pub fewer-started : (s : Session) (k : Kept) → HasDistinctSeqs s.kept → IsHandled s k → to_handle (not_starting_ones (without k.entry.seq s.kept)) < to_handle s.kept
fewer-started s k d i = starting-fewer k.entry.seq s.kept (is-contained s k i) (is-unparked s k d i)

-- where none is kept
pub fewer-none : (s : Session) (k : Kept) → HasDistinctSeqs s.kept → IsHandled s k → 0 < to_handle s.kept
fewer-none s k d i = let h = fewer-handled s k d i in omega arith

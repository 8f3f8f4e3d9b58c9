-- Answers to several kept requests of a table.
use Rattle.std.proofs.Common.{◌≡◌, ℕ, ◌+◌, List, [], ◌∷◌, Bool, true, false, length, refl, sym, ap, ◌∙◌, arith, filter}
use Rattle.std.specs.Prelude.{◌==◌, ◌||◌, ◌&&◌, not, if◌then◌else◌, map}
use Rattle.std.specs.List.{list_all, list_any}
use Rattle.std.proofs.lemmas.Bool.Decides.{nat_tests}
use Rattle.dap_tables.specs.Outstanding.{Kept, entries, without, contains_seq, is_parked, HasDistinctSeqs}
use Rattle.dap_tables.specs.declared.entry.Entry.{Entry}
use Rattle.dap_plan.specs.Handling.{answer_each}
use Rattle.dap_outbox.specs.Waiting.{may_be_lent, waits_to_start, starting_ones, is_starting_in}
use Rattle.dap_outbox.proofs.WaitingLemmas.{TellsMarks, tells-marks, starting-entries}
use Rattle.dap_plan.proofs.Kept.{all-without, false-left, false-right}
use Rattle.dap_outbox.specs.Several.{answer_where}
use Rattle.dap_outbox.specs.Draft.{Answer, Draft, reply}

-- ---- the requests of a table

answers-cons : (b : Bool) (answer : Answer) (k : Kept) (xs : List Entry) (ks : List Kept) → map (λ (r : Entry). reply r answer) xs ≡ answer_each answer ks
    → map (λ (r : Entry). reply r answer) (if b then k.entry ∷ xs else xs) ≡ answer_each answer (if b then k ∷ ks else ks)
answers-cons true answer k xs ks e = ap (λ (ds : List Draft). reply k.entry answer ∷ ds) e
answers-cons false answer k xs ks e = e

pub answers-kept : (except : ℕ) (answer : Answer) (kept : List Kept) → answer_where (λ r. not (r.seq == except)) answer (entries kept) ≡ answer_each answer (without except kept)
answers-kept except answer [] = refl
answers-kept except answer (k ∷ kept) = answers-cons (not (k.entry.seq == except)) answer k (filter (λ (r : Entry). not (r.seq == except)) (entries kept)) (without except kept) (answers-kept except answer kept)

length-cons : (b : Bool) (k : Kept) (xs : List Entry) (ks : List Kept) → length xs ≡ length ks → length (if b then k.entry ∷ xs else xs) ≡ length (if b then k ∷ ks else ks)
length-cons true k xs ks e = omega arith
length-cons false k xs ks e = e

pub others-kept : (except : ℕ) (kept : List Kept) → length (filter (λ (r : Entry). not (r.seq == except)) (entries kept)) ≡ length (without except kept)
others-kept except [] = refl
others-kept except (k ∷ kept) = length-cons (not (k.entry.seq == except)) k (filter (λ (r : Entry). not (r.seq == except)) (entries kept)) (without except kept) (others-kept except kept)

-- ---- those that wait for the debuggee to start

answers-entries : (answer : Answer) (ks : List Kept) → map (λ (r : Entry). reply r answer) (entries ks) ≡ answer_each answer ks
answers-entries answer [] = refl
answers-entries answer (k ∷ ks) = ap (λ (ds : List Draft). reply k.entry answer ∷ ds) (answers-entries answer ks)

length-entries : (ks : List Kept) → length (entries ks) ≡ length ks
length-entries [] = refl
length-entries (k ∷ ks) = let rest = length-entries ks in omega arith

all-entries : (test : Entry → Bool) (ks : List Kept) → list_all test (entries ks) ≡ list_all (λ (k : Kept). test k.entry) ks
all-entries test [] = refl
all-entries test (k ∷ ks) = ap (λ (b : Bool). test k.entry && b) (all-entries test ks)

pub answers-starting : (answer : Answer) (kept : List Kept) → HasDistinctSeqs kept → answer_where (λ r. is_starting_in kept r) answer (entries kept) ≡ answer_each answer (starting_ones kept)
answers-starting answer kept d = ap (map (λ (r : Entry). reply r answer)) (starting-entries kept d) ∙ answers-entries answer (starting_ones kept)

pub count-starting : (kept : List Kept) → HasDistinctSeqs kept → length (filter (λ (r : Entry). is_starting_in kept r) (entries kept)) ≡ length (starting_ones kept)
count-starting kept d = ap (λ (xs : List Entry). length xs) (starting-entries kept d) ∙ length-entries (starting_ones kept)

-- each of them passes a test
pub all-starting : (test : Entry → Bool) (kept : List Kept) → HasDistinctSeqs kept → list_all test (filter (λ (r : Entry). is_starting_in kept r) (entries kept)) ≡ list_all (λ (k : Kept). test k.entry) (starting_ones kept)
all-starting test kept d = ap (λ (xs : List Entry). list_all test xs) (starting-entries kept d) ∙ all-entries test (starting_ones kept)

any-marked : (all : List Kept) (test : Entry → Bool) (ks : List Kept) → TellsMarks all ks → list_any (λ (r : Entry). is_parked r.seq all && test r) (entries ks) ≡ list_any (λ (k : Kept). k.parked && test k.entry) ks
any-marked all test [] t = refl
any-marked all test (k ∷ ks) t = rw t.0 (ap (λ (b : Bool). (k.parked && test k.entry) || b) (any-marked all test ks t.1))

-- one of those that are parked passes a test
pub any-parked : (test : Entry → Bool) (kept : List Kept) → HasDistinctSeqs kept → list_any (λ (r : Entry). is_parked r.seq kept && test r) (entries kept) ≡ list_any (λ (k : Kept). k.parked && test k.entry) kept
any-parked test kept d = any-marked kept test kept (tells-marks kept d)

without-cases : (b : Bool) (k : Kept) (ks : List Kept) → (b && k.parked) ≡ false → starting_ones (if not b then k ∷ ks else ks) ≡ starting_ones (k ∷ ks)
without-cases false k ks h = refl
without-cases true k ks h = ap (λ (p : Bool). if p && not (may_be_lent k.entry) then k ∷ starting_ones ks else starting_ones ks) (sym h)

-- a request that is not parked is none of those
pub starting-without : (seq : ℕ) (kept : List Kept) → is_parked seq kept ≡ false → starting_ones (without seq kept) ≡ starting_ones kept
starting-without seq [] h = refl
starting-without seq (k ∷ kept) h =
    let here = false-left ((k.entry.seq == seq) && k.parked) (is_parked seq kept) h in
    let later = starting-without seq kept (false-right ((k.entry.seq == seq) && k.parked) (is_parked seq kept) h) in
    without-cases (k.entry.seq == seq) k (without seq kept) here ∙ ap (λ (xs : List Kept). if waits_to_start k then k ∷ xs else xs) later

-- ---- how many

one-less : (b : Bool) (k : Kept) (seq : ℕ) (ks kept : List Kept) → (k.entry.seq == seq) ≡ b → contains_seq k.entry.seq kept ≡ false → (b || contains_seq seq kept) ≡ true
    → (contains_seq seq kept ≡ true → length ks + 1 ≡ length kept) → (contains_seq seq kept ≡ false → ks ≡ kept) → length (if not b then k ∷ ks else ks) + 1 ≡ length (k ∷ kept)
one-less true k seq ks kept is d h ih none =
    let same : k.entry.seq ≡ seq = grind (arith, nat_tests) in
    let gone : contains_seq seq kept ≡ false = rw (← same) d in
    let all = ap length (none gone) in
    omega arith
one-less false k seq ks kept is d h ih none = let one = ih h in omega arith

-- one less than all
pub length-without : (seq : ℕ) (kept : List Kept) → HasDistinctSeqs kept → contains_seq seq kept ≡ true → length (without seq kept) + 1 ≡ length kept
length-without seq [] d h = cc
length-without seq (k ∷ kept) d h = one-less (k.entry.seq == seq) k seq (without seq kept) kept refl d.0 h (length-without seq kept d.1) (all-without seq kept)

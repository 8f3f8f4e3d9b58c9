-- Kept requests that wait: by their marks, and by the numbers of what was asked.
use Rattle.std.proofs.Common.{◌≡◌, ℕ, ◌+◌, List, [], ◌∷◌, Bool, true, false, not, Option, Some, None, filter, length, refl, sym, ap, ◌∙◌, arith, cond}
use Rattle.std.specs.Prelude.{◌==◌, ◌||◌, ◌&&◌, find}
use Rattle.std.specs.List.{list_any}
use Rattle.std.specs.Option.{option_map}
use Rattle.dap_tables.specs.declared.entry.Entry.{Entry}
use Rattle.dap_tables.specs.Ors.{or-left, or-right}
use Rattle.dap_tables.specs.Outstanding.{Kept, entries, contains_seq, entry_with, is_parked, parked_ones, HasDistinctSeqs}
use Rattle.dap_tables.proofs.KeptLemmas.{eqb-flip, eqb-self, same-seq, is_parked-absent}
use Rattle.dap_outbox.specs.Waiting.{may_be_lent, waits_to_start, is_lent, starting_ones, lent_ones, is_starting_in, is_lent_in, is_lent_as}

-- ---- the number of a kept request tells its mark

-- of these requests among all
abbrev pub TellsMarks : List Kept → List Kept → Type 0
TellsMarks all [] = Unit {0}
TellsMarks all (k ∷ ks) = (is_parked k.entry.seq all ≡ k.parked) × TellsMarks all ks

or-none : (b : Bool) → (b || false) ≡ b
or-none true = refl
or-none false = refl

-- one more of another number changes nothing
tells-more : (k : Kept) (all ks : List Kept) → contains_seq k.entry.seq ks ≡ false → TellsMarks all ks → TellsMarks (k ∷ all) ks
tells-more k all [] h t = tt
tells-more k all (x ∷ ks) h t =
    let other : (k.entry.seq == x.entry.seq) ≡ false = eqb-flip k.entry.seq x.entry.seq ∙ or-left (x.entry.seq == k.entry.seq) (contains_seq k.entry.seq ks) h in
    (rw other t.0, tells-more k all ks (or-right (x.entry.seq == k.entry.seq) (contains_seq k.entry.seq ks) h) t.1)

pub tells-marks : (kept : List Kept) → HasDistinctSeqs kept → TellsMarks kept kept
tells-marks [] d = tt
tells-marks (k ∷ kept) d = (rw (eqb-self k.entry.seq, is_parked-absent k.entry.seq kept d.0) (or-none k.parked), tells-more k kept kept d.0 (tells-marks kept d.1))

-- ---- entries that pass, and kept requests that do

entries-cons : (b : Bool) (k : Kept) (xs : List Entry) (ks : List Kept) → xs ≡ entries ks → cond b (k.entry ∷ xs) xs ≡ entries (cond b (k ∷ ks) ks)
entries-cons true k xs ks e = ap (λ (ys : List Entry). k.entry ∷ ys) e
entries-cons false k xs ks e = e

parked-where : (test : Entry → Bool) (all ks : List Kept) → TellsMarks all ks → filter (λ (r : Entry). is_parked r.seq all && test r) (entries ks) ≡ entries (filter (λ (k : Kept). k.parked && test k.entry) ks)
parked-where test all [] t = refl
parked-where test all (k ∷ ks) t =
    rw t.0 (entries-cons (k.parked && test k.entry) k (filter (λ (r : Entry). is_parked r.seq all && test r) (entries ks)) (filter (λ (x : Kept). x.parked && test x.entry) ks) (parked-where test all ks t.1))

pub starting-entries : (kept : List Kept) → HasDistinctSeqs kept → filter (λ (r : Entry). is_starting_in kept r) (entries kept) ≡ entries (starting_ones kept)
starting-entries kept d = parked-where (λ (r : Entry). not (may_be_lent r)) kept kept (tells-marks kept d)

pub lent-entries : (kept : List Kept) → HasDistinctSeqs kept → filter (λ (r : Entry). is_lent_in kept r) (entries kept) ≡ entries (lent_ones kept)
lent-entries kept d = parked-where may_be_lent kept kept (tells-marks kept d)

first-cons : (b : Bool) (k : Kept) (o : Option Entry) (p : Option Kept) → option_map (λ (r : Entry). r.seq) o ≡ option_map (λ (x : Kept). x.entry.seq) p
    → option_map (λ (r : Entry). r.seq) (cond b (Some k.entry) o) ≡ option_map (λ (x : Kept). x.entry.seq) (cond b (Some k) p)
first-cons true k o p e = refl
first-cons false k o p e = e

first-where : (all ks : List Kept) → TellsMarks all ks → option_map (λ (r : Entry). r.seq) (find (λ (r : Entry). is_starting_in all r) (entries ks)) ≡ option_map (λ (k : Kept). k.entry.seq) (find waits_to_start ks)
first-where all [] t = refl
first-where all (k ∷ ks) t =
    rw t.0 (first-cons (waits_to_start k) k (find (λ (r : Entry). is_starting_in all r) (entries ks)) (find waits_to_start ks) (first-where all ks t.1))

-- the first that waits to start
pub first-starting : (kept : List Kept) → HasDistinctSeqs kept → option_map (λ (r : Entry). r.seq) (find (λ (r : Entry). is_starting_in kept r) (entries kept)) ≡ option_map (λ (k : Kept). k.entry.seq) (find waits_to_start kept)
first-starting kept d = first-where kept kept (tells-marks kept d)

any-where : (test : Entry → Bool) (all ks : List Kept) → TellsMarks all ks → list_any (λ (r : Entry). is_starting_in all r && test r) (entries ks) ≡ list_any (λ (k : Kept). waits_to_start k && test k.entry) ks
any-where test all [] t = refl
any-where test all (k ∷ ks) t = rw t.0 (ap (λ (b : Bool). (waits_to_start k && test k.entry) || b) (any-where test all ks t.1))

-- one of those that wait to start passes a test
pub any-starting : (test : Entry → Bool) (kept : List Kept) → HasDistinctSeqs kept → list_any (λ (r : Entry). is_starting_in kept r && test r) (entries kept) ≡ list_any (λ (k : Kept). waits_to_start k && test k.entry) kept
any-starting test kept d = any-where test kept kept (tells-marks kept d)

-- ---- a request of a number

-- by the request with this number
abbrev lent-found : Option Entry → List Kept → Bool
lent-found None all = false
lent-found (Some r) all = is_lent_in all r

found-here : (b : Bool) (k : Kept) (o : Option Entry) (all : List Kept) (later : Bool) → is_parked k.entry.seq all ≡ k.parked → (b ≡ true → later ≡ false) → lent-found o all ≡ later → lent-found (cond b (Some k.entry) o) all ≡ ((b && is_lent k) || later)
found-here true k o all later m none ih = rw (m, none refl) (sym (or-none (is_lent k)))
found-here false k o all later m none ih = ih

none-lent : (seq : ℕ) (ks : List Kept) → contains_seq seq ks ≡ false → is_lent_as seq ks ≡ false
none-lent seq [] h = refl
none-lent seq (k ∷ ks) h = rw (or-left (k.entry.seq == seq) (contains_seq seq ks) h) (none-lent seq ks (or-right (k.entry.seq == seq) (contains_seq seq ks) h))

lent-where : (seq : ℕ) (all ks : List Kept) → HasDistinctSeqs ks → TellsMarks all ks → lent-found (entry_with seq ks) all ≡ is_lent_as seq ks
lent-where seq all [] d t = refl
lent-where seq all (k ∷ ks) d t =
    found-here (k.entry.seq == seq) k (entry_with seq ks) all (is_lent_as seq ks) t.0
    (λ is. none-lent seq ks (ap (λ (n : ℕ). contains_seq n ks) (sym (same-seq k.entry.seq seq is)) ∙ d.0))
    (lent-where seq all ks d.1 t.1)

lent-by-number : (seq : ℕ) (kept : List Kept) → HasDistinctSeqs kept → lent-found (entry_with seq kept) kept ≡ is_lent_as seq kept
lent-by-number seq kept d = lent-where seq kept kept d (tells-marks kept d)

pub found-is-lent : (o : Option Entry) (r : Entry) (seq : ℕ) (kept : List Kept) → HasDistinctSeqs kept → o ≡ entry_with seq kept → o ≡ Some r → is_lent_in kept r ≡ is_lent_as seq kept
found-is-lent o r seq kept d e f = ap (λ (x : Option Entry). lent-found x kept) (sym f ∙ e) ∙ lent-by-number seq kept d

pub none-is-lent : (o : Option Entry) (seq : ℕ) (kept : List Kept) → HasDistinctSeqs kept → o ≡ entry_with seq kept → o ≡ None → false ≡ is_lent_as seq kept
none-is-lent o seq kept d e f = ap (λ (x : Option Entry). lent-found x kept) (sym f ∙ e) ∙ lent-by-number seq kept d

-- ---- how many

count-cons : (p h : Bool) (k : Kept) (all starting lent : List Kept) → length all ≡ length starting + length lent
    → length (cond p (k ∷ all) all) ≡ length (cond (p && not h) (k ∷ starting) starting) + length (cond (p && h) (k ∷ lent) lent)
count-cons true true k all starting lent e = omega arith
count-cons true false k all starting lent e = omega arith
count-cons false h k all starting lent e = e

-- each that is parked waits to start, or is lent
pub starting-or-lent : (kept : List Kept) → length (parked_ones kept) ≡ length (starting_ones kept) + length (lent_ones kept)
starting-or-lent [] = refl
starting-or-lent (k ∷ kept) = count-cons k.parked (may_be_lent k.entry) k (parked_ones kept) (starting_ones kept) (lent_ones kept) (starting-or-lent kept)

-- Requests with distinct numbers, as they are kept and as they are asked.
use Rattle.std.proofs.Common.{◌≡◌, ℕ, ◌≤◌, List, [], ◌∷◌, ◌++◌, Bool, true, false, length, refl, sym, ap, ◌∙◌, arith, filter}
use Rattle.std.specs.Prelude.{◌==◌, ◌||◌, not, if◌then◌else◌}
use Rattle.dap_history.specs.History.{Asked, without_answered, has_request_seq}
use Rattle.dap_history.specs.Requests.{asked_of, asks}
use Rattle.dap_tables.specs.Outstanding.{Kept, contains_seq, HasDistinctSeqs}
use Rattle.dap_tables.specs.declared.entry.Entry.{Entry as Request}
use Rattle.dap_plan.specs.Answering.{answered_by, open_after}
use Rattle.dap_outbox.specs.Draft.{Draft}
use Rattle.dap_plan.proofs.Kept.{false-left, false-right, both-false, same-seq, length-filtered}

abbrev pub has_seq : ℕ → List Asked → Bool
has_seq seq [] = false
has_seq seq (q ∷ qs) = (q.seq == seq) || has_seq seq qs

abbrev pub AreDistinct : List Asked → Type 0
AreDistinct [] = Unit {0}
AreDistinct (q ∷ qs) = (has_seq q.seq qs ≡ false) × AreDistinct qs

has_seq-asks : (seq : ℕ) (kept : List Kept) → has_seq seq (asks kept) ≡ contains_seq seq kept
has_seq-asks seq [] = refl
has_seq-asks seq (k ∷ kept) = ap (λ (b : Bool). (k.entry.seq == seq) || b) (has_seq-asks seq kept)

pub asks-distinct : (kept : List Kept) → HasDistinctSeqs kept → AreDistinct (asks kept)
asks-distinct [] d = tt
asks-distinct (k ∷ kept) d = (has_seq-asks k.entry.seq kept ∙ d.0, asks-distinct kept d.1)

pub distinct-asks : (kept : List Kept) → AreDistinct (asks kept) → HasDistinctSeqs kept
distinct-asks [] d = tt
distinct-asks (k ∷ kept) d = (sym (has_seq-asks k.entry.seq kept) ∙ d.0, distinct-asks kept d.1)

has_seq-cons : (b : Bool) (seq : ℕ) (q : Asked) (qs : List Asked) → (q.seq == seq) ≡ false → has_seq seq qs ≡ false → has_seq seq (if b then q ∷ qs else qs) ≡ false
has_seq-cons true seq q qs h e = both-false (q.seq == seq) (has_seq seq qs) h e
has_seq-cons false seq q qs h e = e

has_seq-filter : (seq : ℕ) (p : Asked → Bool) (qs : List Asked) → has_seq seq qs ≡ false → has_seq seq (filter p qs) ≡ false
has_seq-filter seq p [] h = refl
has_seq-filter seq p (q ∷ qs) h = has_seq-cons (p q) seq q (filter p qs) (false-left (q.seq == seq) (has_seq seq qs) h) (has_seq-filter seq p qs (false-right (q.seq == seq) (has_seq seq qs) h))

distinct-cons : (b : Bool) (q : Asked) (qs : List Asked) → has_seq q.seq qs ≡ false → AreDistinct qs → AreDistinct (if b then q ∷ qs else qs)
distinct-cons true q qs h d = (h, d)
distinct-cons false q qs h d = d

distinct-filter : (p : Asked → Bool) (qs : List Asked) → AreDistinct qs → AreDistinct (filter p qs)
distinct-filter p [] d = tt
distinct-filter p (q ∷ qs) d = distinct-cons (p q) q (filter p qs) (has_seq-filter q.seq p qs d.0) (distinct-filter p qs d.1)

pub distinct-open : (ds : List Draft) (qs : List Asked) → AreDistinct qs → AreDistinct (open_after ds qs)
distinct-open [] qs d = d
distinct-open (x ∷ ds) qs d = distinct-open ds (without_answered (answered_by x) qs) (distinct-filter (λ (q : Asked). not (has_request_seq q.seq (answered_by x))) qs d)

pub length-open : (ds : List Draft) (qs : List Asked) → length (open_after ds qs) ≤ length qs
length-open [] qs = omega arith
length-open (x ∷ ds) qs =
    let a = length-open ds (without_answered (answered_by x) qs) in
    let b = length-filtered (λ (q : Asked). not (has_request_seq q.seq (answered_by x))) qs in
    omega arith

pub length-asks : (kept : List Kept) → length (asks kept) ≡ length kept
length-asks [] = refl
length-asks (k ∷ kept) = let h = length-asks kept in omega arith

has_seq-more : (seq : ℕ) (qs : List Asked) (q : Asked) → has_seq seq qs ≡ false → (q.seq == seq) ≡ false → has_seq seq (qs ++ q ∷ []) ≡ false
has_seq-more seq [] q h e = both-false (q.seq == seq) false e refl
has_seq-more seq (x ∷ qs) q h e = both-false (x.seq == seq) (has_seq seq (qs ++ q ∷ [])) (false-left (x.seq == seq) (has_seq seq qs) h) (has_seq-more seq qs q (false-right (x.seq == seq) (has_seq seq qs) h) e)

-- one more, with a new number
distinct-more : (qs : List Asked) (q : Asked) → AreDistinct qs → has_seq q.seq qs ≡ false → AreDistinct (qs ++ q ∷ [])
distinct-more [] q d h = (refl, tt)
distinct-more (x ∷ qs) q d h =
    (has_seq-more x.seq qs q d.0 (same-seq x.seq q.seq (false-left (x.seq == q.seq) (has_seq q.seq qs) h)), distinct-more qs q d.1 (false-right (x.seq == q.seq) (has_seq q.seq qs) h))

-- the kept requests and a new one that came
pub asks-more : (kept : List Kept) (r : Request) → HasDistinctSeqs kept → contains_seq r.seq kept ≡ false → AreDistinct (asks kept ++ asked_of r ∷ [])
asks-more kept r d h = distinct-more (asks kept) (asked_of r) (asks-distinct kept d) (has_seq-asks r.seq kept ∙ h)

-- The stored requests and what a contract sees of them.
use Rattle.std.proofs.Common.{length, arith, ◌≤◌, ◌≡◌, ℕ, ◌+◌, List, [], ◌∷◌, Bool, true, false, not, Option, Some, map, refl, sym, ap, ◌∙◌, cond}
use Rattle.std.specs.Prelude.{◌==◌, ◌&&◌, ◌||◌, if◌then◌else◌, find}
use Rattle.std.specs.List.{count_by}
use Rattle.std.proofs.lemmas.List.Recursion.{is_count_by}
use Rattle.std.specs.Option.{option_map}
use Rattle.std.proofs.lemmas.List.Sums.{sum_by-cons}
use Rattle.dap_tables.specs.declared.entry.Entry.{Entry}
use Rattle.dap_tables.specs.declared.slot.Slot.{Slot}
use Rattle.dap_tables.specs.PrivateOutstandingStore.{kept_of, marked_in}
use Rattle.dap_tables.specs.Outstanding.{Kept, entries, contains_seq, entry_with, is_parked, oldest_unparked, parked_ones, HasDistinctSeqs}
use Rattle.dap_tables.proofs.Lists.{map-map}
use Rattle.dap_tables.proofs.KeptLemmas.{same-seq, length-filter, is_parked-absent}

pub entries-slots : (slots : List Slot) → map (λ slot. slot.entry) slots ≡ entries (map kept_of slots)
entries-slots slots = sym (map-map kept_of (λ (k : Kept). k.entry) slots)

pub entry_with-slots : (seq : ℕ) (slots : List Slot) → entry_with seq (map kept_of slots) ≡ option_map (λ slot. slot.entry) (find (λ slot. slot.entry.seq == seq) slots)
entry_with-slots seq [] = refl
entry_with-slots seq (s ∷ slots) = first-cases (s.entry.seq == seq) s (find (λ (t : Slot). t.entry.seq == seq) slots) (entry_with seq (map kept_of slots)) (entry_with-slots seq slots)
  where
    first-cases : (b : Bool) (s : Slot) (o : Option Slot) (p : Option Entry) → p ≡ option_map (λ slot. slot.entry) o → cond b (Some s.entry) p ≡ option_map (λ slot. slot.entry) (cond b (Some s) o)
    first-cases true s o p h = refl
    first-cases false s o p h = h

oldest-cases : (b : Bool) (s : Slot) (o : Option Slot) (p : Option Kept) → option_map (λ slot. slot.entry.seq) o ≡ option_map (λ k. k.entry.seq) p → option_map (λ slot. slot.entry.seq) (cond b (Some s) o) ≡ option_map (λ k. k.entry.seq) (cond b (Some (kept_of s)) p)
oldest-cases true s o p h = refl
oldest-cases false s o p h = h

pub oldest_unparked-slots : (slots : List Slot) → option_map (λ slot. slot.entry.seq) (find (λ slot. not slot.parked) slots) ≡ oldest_unparked (map kept_of slots)
oldest_unparked-slots [] = refl
oldest_unparked-slots (s ∷ slots) = oldest-cases (not s.parked) s (find (λ (t : Slot). not t.parked) slots) (find (λ (k : Kept). not k.parked) (map kept_of slots)) (oldest_unparked-slots slots)

pub is_parked-slots : (seq : ℕ) (slots : List Slot) → HasDistinctSeqs (map kept_of slots) → is_parked seq (map kept_of slots) ≡ marked_in (find (λ slot. slot.entry.seq == seq) slots)
is_parked-slots seq [] d = refl
is_parked-slots seq (s ∷ slots) d = by (s.entry.seq == seq) refl (is_parked-slots seq slots d.1)
  where
    or-none : (a b : Bool) → b ≡ false → (a || b) ≡ a
    or-none true b h = refl
    or-none false b h = h

    by : (b : Bool) → (s.entry.seq == seq) ≡ b → is_parked seq (map kept_of slots) ≡ marked_in (find (λ (t : Slot). t.entry.seq == seq) slots) → ((b && s.parked) || is_parked seq (map kept_of slots)) ≡ marked_in (if b then Some s else find (λ (t : Slot). t.entry.seq == seq) slots)
    by true e later = or-none s.parked (is_parked seq (map kept_of slots)) (is_parked-absent seq (map kept_of slots) (ap (λ n. contains_seq n (map kept_of slots)) (sym (same-seq s.entry.seq seq e)) ∙ d.0))
    by false e later = later

count-cases : (b : Bool) (s : Slot) (kept : List Kept) → length (if b then kept_of s ∷ kept else kept) ≡ cond b (1 + length kept) (length kept)
count-cases true s kept = omega arith
count-cases false s kept = refl

parked-slots : (slots : List Slot) → length (parked_ones (map kept_of slots)) ≡ count_by (λ slot. slot.parked) slots
parked-slots = is_count_by (λ (slots : List Slot). length (parked_ones (map kept_of slots))) (λ (slot : Slot). slot.parked) refl (λ s slots. count-cases s.parked s (parked_ones (map kept_of slots)))

pub parked_ones-slots : (slots : List Slot) → count_by (λ slot. slot.parked) slots ≡ length (parked_ones (map kept_of slots))
parked_ones-slots slots = sym (parked-slots slots)

pub parked-few : (ks : List Kept) → length (parked_ones ks) ≤ length ks
parked-few ks = length-filter (λ (k : Kept). k.parked) ks

-- each request is parked or not
pub count_both : (slots : List Slot) → count_by (λ slot. slot.parked) slots + count_by (λ slot. not slot.parked) slots ≡ length slots
count_both [] = refl
count_both (s ∷ slots) =
    let one : ◌≡◌ {A = ℕ} (cond s.parked 1 0 + cond (not s.parked) 1 0) 1 = either s.parked in
    let some = sum_by-cons (λ (t : Slot). cond t.parked 1 0) s slots in
    let others = sum_by-cons (λ (t : Slot). cond (not t.parked) 1 0) s slots in
    let rest = count_both slots in
    omega arith
  where
    either : (b : Bool) → ◌≡◌ {A = ℕ} (cond b 1 0 + cond (not b) 1 0) 1
    either true = refl
    either false = refl

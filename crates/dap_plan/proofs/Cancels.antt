-- The requests that a cancel names.
use Rattle.std.proofs.Common.{◌≡◌, ℕ, List, [], ◌∷◌, ◌++◌, Bool, true, false, Option, Some, refl, sym, ap, ◌∙◌, subst}
use Rattle.std.specs.Prelude.{◌==◌, ◌&&◌, not, if◌then◌else◌}
use Rattle.dap_body.specs.declared.failure.Failure.TheVariants.{Cancelled}
use Rattle.dap_tables.specs.Outstanding.{Kept, contains_seq, entry_with, is_parked, HasDistinctSeqs}
use Rattle.dap_tables.specs.declared.entry.Entry.{Entry}
use Rattle.dap_outbox.specs.Waiting.{may_be_lent, waits_to_start, is_starting_in}
use Rattle.dap_outbox.proofs.WaitingLemmas.{TellsMarks, tells-marks}
use Rattle.dap_plan.specs.Handling.{answer_each}
use Rattle.dap_outbox.specs.Draft.{failure, plain_success, reply}
use Rattle.dap_plan.specs.SessionState.{NamesNone, NamesOne}
use Rattle.dap_plan.specs.Session.{Session}
use Rattle.dap_plan.specs.Taking.{after_cancel}
use Rattle.dap_plan.proofs.Kept.{false-left, false-right, all-without}
use Rattle.dap_query.proofs.Interned.{is-eq}

pub and-false : (b : Bool) → (b && false) ≡ false
and-false true = refl
and-false false = refl

pub is-false : (b : Bool) → (b ≡ true → ⊥) → b ≡ false
is-false true h = absurd (h refl)
is-false false h = refl

-- one that is not named
names-other : (id : ℕ) (k : Kept) (ks : List Kept) → (k.entry.seq == id) ≡ false → NamesNone id ks → NamesNone id (k ∷ ks)
names-other id k ks h n =
    record {
      none = rw (h, and-false (not (waits_to_start k))) n.none;
      others = rw (h, and-false (not (waits_to_start k))) (ap (λ (xs : List Kept). k ∷ xs) n.others);
    }

-- no request has the number
pub names-absent : (id : ℕ) (kept : List Kept) → contains_seq id kept ≡ false → NamesNone id kept
names-absent id [] h = record { none = refl; others = refl }
names-absent id (k ∷ kept) h = names-other id k kept (false-left (k.entry.seq == id) (contains_seq id kept) h) (names-absent id kept (false-right (k.entry.seq == id) (contains_seq id kept) h))

-- the request that has it waits for the debuggee to start
starting-here : (id : ℕ) (k : Kept) (ks : List Kept) → (k.entry.seq == id) ≡ true → waits_to_start k ≡ true → NamesNone id ks → NamesNone id (k ∷ ks)
starting-here id k ks h p n =
    let not_named : (not (waits_to_start k) && (k.entry.seq == id)) ≡ false = ap (λ (b : Bool). not b && (k.entry.seq == id)) p in
    record { none = rw not_named n.none; others = rw not_named (ap (λ (xs : List Kept). k ∷ xs) n.others) }

gone-after : (id : ℕ) (k : Kept) (ks : List Kept) → (k.entry.seq == id) ≡ true → contains_seq k.entry.seq ks ≡ false → contains_seq id ks ≡ false
gone-after id k ks h d = subst (λ n. contains_seq n ks ≡ false) (is-eq k.entry.seq id h) d

-- by its mark, as its number tells it
waits-as : (all : List Kept) (k : Kept) (r : Entry) (b : Bool) → is_parked k.entry.seq all ≡ k.parked → k.entry ≡ r → is_starting_in all r ≡ b → waits_to_start k ≡ b
waits-as all k r b m e h = ap (λ (p : Bool). p && not (may_be_lent k.entry)) (sym m) ∙ subst (λ (x : Entry). is_starting_in all x ≡ b) (sym e) h

starting-if : (b : Bool) (all : List Kept) (id : ℕ) (k : Kept) (ks : List Kept) (r : Entry) (o : Option Entry) → (k.entry.seq == id) ≡ b → contains_seq k.entry.seq ks ≡ false → is_parked k.entry.seq all ≡ k.parked → is_starting_in all r ≡ true
    → (o ≡ Some r → NamesNone id ks) → (if b then Some k.entry else o) ≡ Some r → NamesNone id (k ∷ ks)
starting-if true all id k ks r o h d m p ih e = let same : k.entry ≡ r = cc in starting-here id k ks h (waits-as all k r true m same p) (names-absent id ks (gone-after id k ks h d))
starting-if false all id k ks r o h d m p ih e = names-other id k ks h (ih e)

names-starting-in : (all : List Kept) (id : ℕ) (kept : List Kept) (r : Entry) → HasDistinctSeqs kept → TellsMarks all kept → is_starting_in all r ≡ true → entry_with id kept ≡ Some r → NamesNone id kept
names-starting-in all id [] r d t p e = record { none = refl; others = refl }
names-starting-in all id (k ∷ kept) r d t p e = starting-if (k.entry.seq == id) all id k kept r (entry_with id kept) refl d.0 t.0 p (names-starting-in all id kept r d.1 t.1 p) e

pub names-starting : (id : ℕ) (kept : List Kept) (r : Entry) → HasDistinctSeqs kept → is_starting_in kept r ≡ true → entry_with id kept ≡ Some r → NamesNone id kept
names-starting id kept r d p e = names-starting-in kept id kept r d (tells-marks kept d) p e

-- the request that has it, where it does not wait for that
pub record Finds (id : ℕ) (kept : List Kept) (r : Entry) : Type 0 where
  pub names : NamesOne id kept
  pub entry : names.one.entry ≡ r

finds-here : (id : ℕ) (k : Kept) (ks : List Kept) (r : Entry) → (k.entry.seq == id) ≡ true → waits_to_start k ≡ false → contains_seq id ks ≡ false → k.entry ≡ r → Finds id (k ∷ ks) r
finds-here id k ks r h p gone e =
    let rest = names-absent id ks gone in
    let is_named : (not (waits_to_start k) && (k.entry.seq == id)) ≡ true = ap (λ (b : Bool). not b && (k.entry.seq == id)) p ∙ h in
    record {
      names = record { one = k; named = rw is_named (ap (λ (xs : List Kept). k ∷ xs) rest.none); others = rw (is_named, h) (rest.others ∙ sym (all-without id ks gone)) };
      entry = e;
    }

finds-later : (id : ℕ) (k : Kept) (ks : List Kept) (r : Entry) → (k.entry.seq == id) ≡ false → Finds id ks r → Finds id (k ∷ ks) r
finds-later id k ks r h f =
    record {
      names = record { one = f.names.one; named = rw (h, and-false (not (waits_to_start k))) f.names.named; others = rw (h, and-false (not (waits_to_start k))) (ap (λ (xs : List Kept). k ∷ xs) f.names.others) };
      entry = f.entry;
    }

finds-if : (b : Bool) (all : List Kept) (id : ℕ) (k : Kept) (ks : List Kept) (r : Entry) (o : Option Entry) → (k.entry.seq == id) ≡ b → contains_seq k.entry.seq ks ≡ false → is_parked k.entry.seq all ≡ k.parked → is_starting_in all r ≡ false
    → (o ≡ Some r → Finds id ks r) → (if b then Some k.entry else o) ≡ Some r → Finds id (k ∷ ks) r
finds-if true all id k ks r o h d m p ih e = let same : k.entry ≡ r = cc in finds-here id k ks r h (waits-as all k r false m same p) (gone-after id k ks h d) same
finds-if false all id k ks r o h d m p ih e = finds-later id k ks r h (ih e)

finds-in : (all : List Kept) (id : ℕ) (kept : List Kept) (r : Entry) → HasDistinctSeqs kept → TellsMarks all kept → is_starting_in all r ≡ false → entry_with id kept ≡ Some r → Finds id kept r
finds-in all id [] r d t p e = absurd (cc)
finds-in all id (k ∷ kept) r d t p e = finds-if (k.entry.seq == id) all id k kept r (entry_with id kept) refl d.0 t.0 p (finds-in all id kept r d.1 t.1 p) e

pub finds : (id : ℕ) (kept : List Kept) (r : Entry) → HasDistinctSeqs kept → is_starting_in kept r ≡ false → entry_with id kept ≡ Some r → Finds id kept r
finds id kept r d p e = finds-in kept id kept r d (tells-marks kept d) p e

-- what is answered then
pub after_cancel-one : (id : ℕ) (r named : Entry) (s : Session) → Finds id s.kept named → (after_cancel (Some id) r s).drafts ≡ reply named (failure Cancelled) ∷ reply r plain_success ∷ []
after_cancel-one id r named s f =
    ap (λ (ks : List Kept). answer_each (failure Cancelled) ks ++ reply r plain_success ∷ []) f.names.named ∙ ap (λ (x : Entry). reply x (failure Cancelled) ∷ reply r plain_success ∷ []) f.entry

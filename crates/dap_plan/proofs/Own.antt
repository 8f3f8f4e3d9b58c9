-- The requests of whoever holds the adapter that the client has not answered: what a step leaves of them.
use Rattle.std.proofs.Common.{◌≡◌, ◌⊎◌, inl, inr, ℕ, ◌+◌, ◌<◌, ◌≤◌, List, [], ◌∷◌, false, Some, refl, arith}
use Rattle.std.specs.Prelude.{◌==◌}
use Rattle.std.specs.List.{AllByRecursion}
use Rattle.std.proofs.lemmas.Bool.Decides.{nat_tests}
use Rattle.dap_outbox.specs.Draft.{Draft, reply, emit, ask, ask_named, named_in}
use Rattle.dap_tables.specs.Outstanding.{Kept, contains_seq}
use Rattle.dap_plan.specs.Laws.{AskNoneByName}
use Rattle.dap_plan.specs.Plan.{Made}
use Rattle.dap_plan.specs.Session.{Session, OwnStandApart}
use Rattle.dap_plan.proofs.Kept.{both-false}

-- ---- numbers that were given

less-is-other : (a b : ℕ) → a < b → (a == b) ≡ false
less-is-other a b l = grind (arith, nat_tests)

-- a number past those that were given is none of theirs
pub not-given : (n k : ℕ) (ks : List Kept) → AllByRecursion (λ (x : Kept). x.entry.seq ≤ n) ks → n < k → contains_seq k ks ≡ false
not-given n k [] h l = refl
not-given n k (x ∷ ks) h l =
    let small = h.0 in
    both-false (x.entry.seq == k) (contains_seq k ks) (less-is-other x.entry.seq k (omega arith)) (not-given n k ks h.1 l)

pub given-more : (n k : ℕ) (ks : List Kept) → n ≤ k → AllByRecursion (λ (x : Kept). x.entry.seq ≤ n) ks → AllByRecursion (λ (x : Kept). x.entry.seq ≤ k) ks
given-more n k [] l h = tt
given-more n k (x ∷ ks) l h = let small = h.0 in (omega arith, given-more n k ks l h.1)

-- ---- drafts

pub none-named : (used : ℕ) (ds : List Draft) → AskNoneByName ds → named_in used ds ≡ []
none-named used [] n = refl
none-named used (reply r answer ∷ ds) n = none-named (used + 1) ds n
none-named used (emit event ∷ ds) n = none-named (used + 1) ds n
none-named used (ask ∷ ds) n = none-named (used + 1) ds n
none-named used (ask_named command arguments ∷ ds) n = absurd n

-- ---- a step

abbrev pub KeepsOwn : Session → Made → Type 0
KeepsOwn s m = OwnStandApart s → OwnStandApart m.after

-- none is asked or answered; a request for a terminal that waits then waited, or its number is of this step
pub record OwnStays (s : Session) (m : Made) : Type 0 where
  pub same : m.after.own ≡ s.own
  pub none : AskNoneByName m.drafts
  pub asked : (seq : ℕ) → m.after.asked ≡ Some seq → (s.asked ≡ Some seq) ⊎ ((s.used < seq) × (seq ≤ m.after.used))

apart-by : (s : Session) (m : Made) (seq : ℕ) → OwnStandApart s → (s.asked ≡ Some seq) ⊎ ((s.used < seq) × (seq ≤ m.after.used)) → contains_seq seq s.own ≡ false
apart-by s m seq o (inl e) = o.apart seq e
apart-by s m seq o (inr l) = not-given s.used seq s.own o.given l.0

given-by : (s : Session) (m : Made) (seq : ℕ) → OwnStandApart s → s.used ≤ m.after.used → (s.asked ≡ Some seq) ⊎ ((s.used < seq) × (seq ≤ m.after.used)) → seq ≤ m.after.used
given-by s m seq o u (inl e) = let small = o.asked_given seq e in omega arith
given-by s m seq o u (inr l) = l.1

pub own-kept : (s : Session) (m : Made) → OwnStays s m → m.after.limits ≡ s.limits → s.used ≤ m.after.used → KeepsOwn s m
own-kept s m q l u o = record {
  distinct = rw q.same o.distinct;
  apart = λ seq e. rw q.same (apart-by s m seq o (q.asked seq e));
  given = rw q.same (given-more s.used m.after.used s.own u o.given);
  asked_given = λ seq e. given-by s m seq o u (q.asked seq e);
  places = rw (q.same, l) o.places;
}

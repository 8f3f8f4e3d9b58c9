-- A lent request that is answered: why it is not, and what is appended where it is.
use Rattle.std.proofs.Common.{◌≡◌, ℕ, List, ◌++◌, Bool, true, false, Option, Some, None, Result, Ok, Err, IsSome, IsTrue, OnOk, IfSome, refl, sym, ap, ◌∙◌, subst}
use Rattle.std.specs.Prelude.{if◌then◌else◌, not, is_ok}
use Rattle.dap_message.specs.declared.outcome.Outcome.{Outcome}
use Rattle.dap_message.specs.declared.outcome.Outcome.TheVariants.{Success}
use Rattle.dap_tables.specs.Outstanding.{Kept, entry_with, contains_seq, without, HasDistinctSeqs}
use Rattle.dap_tables.specs.declared.entry.Entry.{Entry}
use Rattle.dap_tables.proofs.KeptLemmas.{entry_with-seq, entry_with_from_contains}
use Rattle.dap_outbox.specs.Draft.{came_out}
use Rattle.dap_outbox.specs.Outbox.{OutboxState}
use Rattle.dap_outbox.specs.Waiting.{is_lent_as}
use Rattle.dap_outbox.proofs.WaitingLemmas.{found-is-lent}
use Rattle.dap_plan.specs.Carried.{Goes}
use Rattle.dap_plan.specs.Plan.{after_answering}
use Rattle.dap_plan.specs.Responding.{IsWhyNotResponded, early_respond_faults, first_respond_fault}
use Rattle.dap_plan.specs.Session.{Session}
use Rattle.dap_plan.specs.SessionState.{AppendsSome, SessionState}
use Rattle.dap_plan.specs.declared.fault.RespondFault.{RespondFault}
use Rattle.dap_plan.specs.declared.fault.RespondFault.TheVariants as fault
use Rattle.dap_session.specs.PrivateResponding.{HoldsResponse, MakesResponse}
use Rattle.dap_session.specs.SessionCalls.{HasResponded}
use Rattle.dap_session.proofs.TakingRequests.{at_once_carries}

-- the first of those that take no memory, or else the others
abbrev early-or : (closed gone : Bool) → Option RespondFault → Option RespondFault
early-or closed gone others = if closed then Some fault.Closed else (if gone then Some fault.NotLent else others)

some-early : (c n : Bool) (others : Option RespondFault) (f : RespondFault) → early-or c n None ≡ Some f → early-or c n others ≡ Some f
some-early true n others f e = e
some-early false true others f e = e
some-early false false others f e = absurd (cc e)

no-memory : (c n : Bool) → early-or c n None ≡ Some fault.OutOfMemory → ⊥
no-memory true n e = cc e
no-memory false true e = cc e
no-memory false false e = cc e

pub early-is-why : (seq : ℕ) (o : Outcome) (closed : Bool) (s : Session) (f : RespondFault) → first_respond_fault early_respond_faults seq (Success None) closed s ≡ Some f → IsWhyNotResponded f seq o closed s
early-is-why seq o closed s fault.Closed e = some-early closed (not (is_lent_as seq s.kept)) _ _ e
early-is-why seq o closed s fault.NotLent e = some-early closed (not (is_lent_as seq s.kept)) _ _ e
early-is-why seq o closed s fault.TooLarge e = some-early closed (not (is_lent_as seq s.kept)) _ _ e
early-is-why seq o closed s fault.SeqExhausted e = some-early closed (not (is_lent_as seq s.kept)) _ _ e
early-is-why seq o closed s fault.OutOfMemory e = absurd (no-memory closed (not (is_lent_as seq s.kept)) e)

-- ---- what is answered

some-is : (o : Option Entry) → IsSome o → (r : Entry) × (o ≡ Some r)
some-is None h = absurd (cc)
some-is (Some r) h = (r, refl)

number-is : (o : Option Entry) (r : Entry) (seq : ℕ) → o ≡ Some r → IfSome o (λ x. x.seq ≡ seq) → r.seq ≡ seq
number-is o r seq e h = subst (λ (x : Option Entry). IfSome x (λ y. y.seq ≡ seq)) e h

has-responded : {D : Type 0} (follows : Goes D) (seq : ℕ) (o : Outcome) (old new : SessionState D) (bytes : List ℕ) → HasDistinctSeqs old.session.kept → contains_seq seq old.session.kept ≡ true → is_lent_as seq old.session.kept ≡ true
    → MakesResponse seq o old.session new.session bytes → new.debuggee ≡ old.debuggee → HasResponded follows seq o old new bytes
has-responded follows seq o old new bytes d c l m same =
    let kept = old.session.kept in
    let found = some-is (entry_with seq kept) (entry_with_from_contains seq kept c) in
    let r = found.0 in
    let number = number-is (entry_with seq kept) r seq found.1 (entry_with-seq seq kept) in
    record {
      entry = r;
      number = number;
      lent = record { kept = ap (λ (n : ℕ). entry_with n kept) number ∙ found.1; lent = found-is-lent (entry_with seq kept) r seq kept d refl found.1 ∙ l };
      carries = at_once_carries follows (after_answering r (came_out o) old.session) old new bytes (m r found.1) same;
    }

pub appends-response : {T E D : Type 0} (follows : Goes D) (seq : ℕ) (o : Outcome) (old new : SessionState D) (r : Result T E) (ok : Bool) (front bytes items after : List ℕ) → HasDistinctSeqs old.session.kept → contains_seq seq old.session.kept ≡ true → is_lent_as seq old.session.kept ≡ true
    → ok ≡ is_ok r → front ≡ items → (IsTrue ok → after ≡ front ++ bytes) → new.debuggee ≡ old.debuggee → OnOk r (MakesResponse seq o old.session new.session bytes) → OnOk r (AppendsSome (λ bs. HasResponded follows seq o old new bs) items after)
appends-response follows seq o old new (Ok x) ok front bytes items after d c l value f a same made =
    record { bytes = bytes; items = a value ∙ ap (λ (s : List ℕ). s ++ bytes) f; holds = has-responded follows seq o old new bytes d c l made same }
appends-response follows seq o old new (Err e) ok front bytes items after d c l value f a same made = tt

-- the outbox holds the response, and the session is without the request
pub response-made : (seq : ℕ) (o : Outcome) (s new : Session) (outbox : OutboxState) (bytes : List ℕ) → HoldsResponse outbox s seq o → new ≡ record s { kept = without seq s.kept; used = outbox.numbers.used } → bytes ≡ outbox.bytes → MakesResponse seq o s new bytes
response-made seq o s new outbox bytes h n b r e =
    let holds = h r e in
    let number = number-is (entry_with seq s.kept) r seq e (entry_with-seq seq s.kept) in
    record {
      session =
          n
          ∙ ap (λ (q : ℕ). let x : Session = record s { kept = without q s.kept; used = outbox.numbers.used } in x) (sym number)
          ∙ ap (λ (u : ℕ). let x : Session = record s { kept = without r.seq s.kept; used = u } in x) holds.count;
      tells = record { bytes_are = b ∙ holds.bytes; reads_back = holds.reads_back };
    }

-- the request that was found is the one of that number
pub found-is : (found : Option Entry) (here r : Entry) (seq : ℕ) (kept : List Kept) → found ≡ entry_with seq kept → found ≡ Some here → entry_with seq kept ≡ Some r → here ≡ r
found-is found here r seq kept e f g = let same : Some here ≡ Some r = sym f ∙ (e ∙ g) in cc

-- no refusal holds
pub none-left : {A : Type 0} (o : Option A) → ((x : A) → o ≡ Some x → ⊥) → o ≡ None
none-left None never = refl
none-left (Some x) never = absurd (never x refl)

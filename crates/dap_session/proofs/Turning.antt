-- The request that a turn handles, and what the turn comes to.
use Rattle.std.proofs.Common.{◌≡◌, ℕ, ◌+◌, ◌<◌, ◌≤◌, List, [], ◌∷◌, ◌++◌, true, false, Option, Some, None, Ok, Err, refl, sym, ap, ◌∙◌, subst, arith}
use Rattle.std.specs.Prelude.{◌==◌, not, nat_le, option_map}
use Rattle.std.proofs.lemmas.Bool.Decides.{nat_tests}
use Rattle.dap_tables.specs.Outstanding.{Kept, entry_with, contains_seq, oldest_unparked, HasDistinctSeqs}
use Rattle.dap_tables.specs.declared.entry.Entry.{Entry}
use Rattle.dap_debuggee.specs.Shown.{Shown}
use Rattle.dap_plan.specs.declared.fault.AdapterFault.TheVariants.{SeqExhausted, OutOfMemory}
use Rattle.dap_plan.specs.declared.fault.AdapterFault.{AdapterFault}
use Rattle.dap_plan.specs.Carried.{Goes}
use Rattle.dap_plan.specs.SessionState.{SessionState, IsUnasked, IsRefusedFor, NotTurned, HasTurned, Carries}
use Rattle.dap_plan.specs.Handling.{plan_of_turn, some_plan, turn_of}
use Rattle.dap_plan.specs.Plan.{messages_due, plan_within_numbers}
use Rattle.dap_plan.specs.Session.{Session, oldest}
use Rattle.dap_plan.proofs.Kept.{IsKept, kept-found, apart, eqb-self, false-left, false-right}

entry-middle : (before : List Kept) (k : Kept) (after : List Kept) → contains_seq k.entry.seq before ≡ false → entry_with k.entry.seq (before ++ k ∷ after) ≡ Some k.entry
entry-middle [] k after h = rw (eqb-self k.entry.seq) refl
entry-middle (x ∷ before) k after h =
    rw (false-left (x.entry.seq == k.entry.seq) (contains_seq k.entry.seq before) h) (entry-middle before k after (false-right (x.entry.seq == k.entry.seq) (contains_seq k.entry.seq before) h))

entry-kept : (kept : List Kept) (k : Kept) → HasDistinctSeqs kept → IsKept kept k → entry_with k.entry.seq kept ≡ Some k.entry
entry-kept kept k d i =
    rw i.split (entry-middle i.before k i.after (apart i.before k i.after (subst (λ (xs : List Kept). HasDistinctSeqs xs) i.split d)).not_before)

oldest-as : (kept : List Kept) (o : Option Kept) (seq : ℕ) (r : Entry) → oldest kept ≡ o → HasDistinctSeqs kept → option_map (λ (k : Kept). k.entry.seq) o ≡ Some seq → entry_with seq kept ≡ Some r → option_map (λ (k : Kept). k.entry) o ≡ Some r
oldest-as kept None seq r is d e f = cc
oldest-as kept (Some k) seq r is d e f =
    let same : k.entry.seq ≡ seq = cc in
    sym (entry-kept kept k d (kept-found (λ (x : Kept). not x.parked) kept k is)) ∙ (ap (λ n. entry_with n kept) same ∙ f)

-- the request with the oldest number is the oldest
pub oldest-entry : (kept : List Kept) (seq : ℕ) (r : Entry) → HasDistinctSeqs kept → oldest_unparked kept ≡ Some seq → entry_with seq kept ≡ Some r → option_map (λ (k : Kept). k.entry) (oldest kept) ≡ Some r
oldest-entry kept seq r d e f = oldest-as kept (oldest kept) seq r refl d e f

-- ---- a turn

pub within : (a b : ℕ) → a ≤ b → nat_le a b ≡ true
within a b h = grind (arith, nat_tests)

pub beyond : (a b : ℕ) → b < a → nat_le a b ≡ false
beyond a b h = grind (arith, nat_tests)

turn-within : (view : Shown) (s : Session) (o : Option Kept) (r : Entry) → option_map (λ (k : Kept). k.entry) o ≡ Some r → s.used + messages_due (plan_of_turn view s r) ≤ s.limits.seq → turn_of view s o ≡ Ok (Some (plan_of_turn view s r))
turn-within view s None r e h = cc
turn-within view s (Some k) r e h =
    let same : k.entry ≡ r = cc in
    rw same (rw (within (s.used + messages_due (plan_of_turn view s r)) s.limits.seq h) refl)

turn-beyond : (view : Shown) (s : Session) (o : Option Kept) (r : Entry) → option_map (λ (k : Kept). k.entry) o ≡ Some r → s.limits.seq < s.used + messages_due (plan_of_turn view s r) → turn_of view s o ≡ Err SeqExhausted
turn-beyond view s None r e h = cc
turn-beyond view s (Some k) r e h =
    let same : k.entry ≡ r = cc in
    rw same (rw (beyond (s.used + messages_due (plan_of_turn view s r)) s.limits.seq h) refl)

pub turned : {D : Type 0} (shown : D → Shown) (follows : Goes D) (old new : SessionState D) (bytes : List ℕ) (r : Entry) → Some r ≡ option_map (λ (k : Kept). k.entry) (oldest old.session.kept) → old.session.used + messages_due (plan_of_turn (shown old.debuggee) old.session r) ≤ old.session.limits.seq
    → Carries follows (plan_of_turn (shown old.debuggee) old.session r) old new bytes → HasTurned shown follows old new bytes
turned shown follows old new bytes r e h c = record { plan = plan_of_turn (shown old.debuggee) old.session r; is = turn-within (shown old.debuggee) old.session (oldest old.session.kept) r (sym e) h; carries = c }

unasked-turn : {D : Type 0} (view : Shown) (s : Session) (o : Option Kept) (r : Entry) (v w : D) → option_map (λ (k : Kept). k.entry) o ≡ Some r → IsUnasked (some_plan (plan_within_numbers s (plan_of_turn view s r))) v w → IsUnasked (turn_of view s o) v w
unasked-turn view s None r v w e h = cc
unasked-turn view s (Some k) r v w e h =
    let same : k.entry ≡ r = cc in
    rw same h

pub not_turned : {D : Type 0} (shown : D → Shown) (fault : AdapterFault) (old new : SessionState D) (r : Entry) → Some r ≡ option_map (λ (k : Kept). k.entry) (oldest old.session.kept) → IsRefusedFor fault (plan_of_turn (shown old.debuggee) old.session r) old new → NotTurned shown fault old new
not_turned shown SeqExhausted old new r e h = (turn-beyond (shown old.debuggee) old.session (oldest old.session.kept) r (sym e) h.0, h.1)
not_turned shown OutOfMemory old new r e h = unasked-turn (shown old.debuggee) old.session (oldest old.session.kept) r old.debuggee new.debuggee (sym e) h
not_turned shown _ old new r e h = h

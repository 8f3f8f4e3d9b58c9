-- An event that is told by its name: why it is not, and what is appended where it is.
use Rattle.std.proofs.Common.{◌≡◌, ℕ, List, ◌++◌, Bool, true, false, Option, Some, None, Result, Ok, Err, IsTrue, OnOk, ap, ◌∙◌}
use Rattle.std.specs.Prelude.{if◌then◌else◌, not, is_ok}
use Rattle.serde_json.specs.Data.{Data}
use Rattle.dap_plan.specs.Carried.{Goes}
use Rattle.dap_plan.specs.Emitting.{IsWhyNotEmitted, early_emit_faults, first_emit_fault, is_reserved, tells_events}
use Rattle.dap_plan.specs.Plan.{Made, at_once}
use Rattle.dap_plan.specs.Session.{Session}
use Rattle.dap_plan.specs.SessionState.{AppendsSome, Carries, MadeBy, SessionState}
use Rattle.dap_plan.specs.declared.fault.EmitFault.{EmitFault}
use Rattle.dap_plan.specs.declared.fault.EmitFault.TheVariants as fault
use Rattle.dap_session.proofs.TakingRequests.{at_once_carries}

-- the first of those that take no memory, or else the others
abbrev early-or : (closed wrong reserved : Bool) → Option EmitFault → Option EmitFault
early-or closed wrong reserved others = if closed then Some fault.Closed else (if wrong then Some fault.WrongPhase else (if reserved then Some fault.Reserved else others))

some-early : (c w r : Bool) (others : Option EmitFault) (f : EmitFault) → early-or c w r None ≡ Some f → early-or c w r others ≡ Some f
some-early true w r others f e = e
some-early false true r others f e = e
some-early false false true others f e = e
some-early false false false others f e = absurd (cc e)

no-memory : (c w r : Bool) → early-or c w r None ≡ Some fault.OutOfMemory → ⊥
no-memory true w r e = cc e
no-memory false true r e = cc e
no-memory false false true e = cc e
no-memory false false false e = cc e

pub early-is-why : (name : List ℕ) (body : Option Data) (closed : Bool) (s : Session) (f : EmitFault) → first_emit_fault early_emit_faults name body closed s ≡ Some f → IsWhyNotEmitted f name body closed s
early-is-why name body closed s fault.Closed e = some-early closed (not (tells_events s.phase)) (is_reserved name) _ _ e
early-is-why name body closed s fault.WrongPhase e = some-early closed (not (tells_events s.phase)) (is_reserved name) _ _ e
early-is-why name body closed s fault.Reserved e = some-early closed (not (tells_events s.phase)) (is_reserved name) _ _ e
early-is-why name body closed s fault.TooLarge e = some-early closed (not (tells_events s.phase)) (is_reserved name) _ _ e
early-is-why name body closed s fault.SeqExhausted e = some-early closed (not (tells_events s.phase)) (is_reserved name) _ _ e
early-is-why name body closed s fault.OutOfMemory e = absurd (no-memory closed (not (tells_events s.phase)) (is_reserved name) e)

-- what was made at once is behind what was there
pub appends-made : {T E D : Type 0} (follows : Goes D) (m : Made) (old new : SessionState D) (r : Result T E) (ok : Bool) (front bytes items after : List ℕ) → ok ≡ is_ok r → front ≡ items → (IsTrue ok → after ≡ front ++ bytes) → new.debuggee ≡ old.debuggee
    → OnOk r (MadeBy m old.session new.session bytes) → OnOk r (AppendsSome (λ bs. Carries follows (at_once m) old new bs) items after)
appends-made follows m old new (Ok x) ok front bytes items after value f a d made =
    record { bytes = bytes; items = a value ∙ ap (λ (s : List ℕ). s ++ bytes) f; holds = at_once_carries follows m old new bytes made d }
appends-made follows m old new (Err e) ok front bytes items after value f a d made = tt

-- An event that whoever holds the adapter tells by its name.
-- Specification, "Event". Which names are reserved, which refusals there are, and their order, is this profile's choice.
use Rattle.std.specs.Prelude.{◌≡◌, ℕ, ◌+◌, List, [], ◌∷◌, ◌++◌, codes, bytes_eq, nat_le, not, ◌||◌, Bool, true, false, Option, Some, None, find}
use Rattle.serde_json.specs.Data.{Data}
use Rattle.dap_message.specs.Lengths.{event_fits}
use Rattle.dap_message.specs.MessageParts.{named}
use Rattle.dap_decision.specs.declared.phase.Phase.{Phase}
use Rattle.dap_decision.specs.declared.phase.Phase.TheVariants.{Fresh, Ended}
use Rattle.dap_outbox.specs.Draft.{emit}
use Rattle.dap_plan.specs.Plan.{Made, Plan, at_once}
use Rattle.dap_plan.specs.Session.{Session}
use Rattle.dap_plan.specs.declared.fault.EmitFault.{EmitFault}
use Rattle.dap_plan.specs.declared.fault.EmitFault.TheVariants as fault

-- ---- the refusals

-- those that say what a client may do next: the adapter tells five of them by itself, where they are true, and `capabilities` never
abbrev pub is_reserved : List ℕ → Bool
is_reserved name =
    bytes_eq name (codes "initialized") || (bytes_eq name (codes "stopped") || (bytes_eq name (codes "continued")
    || (bytes_eq name (codes "exited") || (bytes_eq name (codes "terminated") || bytes_eq name (codes "capabilities")))))

-- from the answer to `initialize` on, until `disconnect` is answered
abbrev pub tells_events : Phase → Bool
tells_events Fresh = false
tells_events Ended = false
tells_events _ = true

-- whether a refusal holds of an event with a body, at an adapter that a fault closed or not
abbrev pub emit_holds : EmitFault → List ℕ → Option Data → Bool → Session → Bool
emit_holds fault.Closed name body closed s = closed
emit_holds fault.WrongPhase name body closed s = not (tells_events s.phase)
emit_holds fault.Reserved name body closed s = is_reserved name
emit_holds fault.TooLarge name body closed s = not (event_fits s.limits.body (s.used + 1) (named name body))
emit_holds fault.SeqExhausted name body closed s = nat_le s.limits.seq s.used
emit_holds fault.OutOfMemory name body closed s = false

-- those that are told without memory
abbrev pub early_emit_faults : List EmitFault
early_emit_faults = fault.Closed ∷ fault.WrongPhase ∷ fault.Reserved ∷ []

-- those that are measured on the event as it would be written
abbrev pub late_emit_faults : List EmitFault
late_emit_faults = fault.TooLarge ∷ fault.SeqExhausted ∷ []

abbrev pub emit_faults : List EmitFault
emit_faults = early_emit_faults ++ late_emit_faults

abbrev pub first_emit_fault : List EmitFault → List ℕ → Option Data → Bool → Session → Option EmitFault
first_emit_fault faults name body closed s = find (λ f. emit_holds f name body closed s) faults

-- why an event is not told: the first of them that holds; or memory was refused, and none of those that take none does
abbrev pub IsWhyNotEmitted : EmitFault → List ℕ → Option Data → Bool → Session → Type 0
IsWhyNotEmitted fault.OutOfMemory name body closed s = first_emit_fault early_emit_faults name body closed s ≡ None
IsWhyNotEmitted f name body closed s = first_emit_fault emit_faults name body closed s ≡ Some f

-- ---- what comes of it

-- one message is written, and nothing else has changed but the own numbers
abbrev pub after_emitting : List ℕ → Option Data → Session → Made
after_emitting name body s = record { drafts = emit (named name body) ∷ []; drops = false; after = record s { used = s.used + 1 } }

-- the debuggee is asked nothing
abbrev pub emits : List ℕ → Option Data → Session → Plan
emits name body s = at_once (after_emitting name body s)

-- What comes of a call that is to be sent: the first refusal that holds, or the request.
-- Specification, "Request". Which refusals there are, and their order, is this profile's choice.
use Rattle.std.specs.Prelude.{ℕ, ◌+◌, List, [], ◌∷◌, ◌++◌, length, Bool, false, not, ◌&&◌, ◌||◌, nat_lt, nat_le, Option, find}
use Rattle.dap_frame.specs.Written.{frame_of}
use Rattle.dap_envelope.specs.Canon.{canon}
use Rattle.dap_command.specs.Capabilities.{is_allowed}
use Rattle.dap_call.specs.CallTree.{call_tree, command_of}
use Rattle.dap_command.specs.Command.{name_of}
use Rattle.dap_call.specs.declared.call.Call.{Call}
use Rattle.dap_envelope.specs.declared.message.Message.{Message}
use Rattle.dap_envelope.specs.declared.message.Kind.TheVariants.{Request}
use Rattle.dap_tables.specs.Outstanding.{kept_unparked}
use Rattle.dap_tables.specs.declared.entry.Entry.{Entry}
use Rattle.dap_client.specs.declared.fault.SendFault.{SendFault}
use Rattle.dap_client.specs.declared.fault.SendFault.TheVariants as fault
use Rattle.dap_client.specs.declared.phase.Phase.TheVariants.{Ended}
use Rattle.dap_client.specs.Phases.{is_phase}
use Rattle.dap_client.specs.References.{are_known}
use Rattle.dap_client.specs.Seen.{after_sent}
use Rattle.dap_client.specs.Session.{Session}
use Rattle.dap_client.specs.Table.{is_sent_in, waits_for_stop}

-- ---- the request

abbrev pub request_of : ℕ → Call → Entry
request_of seq c = record { seq = seq; command = name_of (command_of c); arguments = call_tree c }

abbrev pub message_of : ℕ → Call → Message
message_of seq c = record { seq = seq; kind = Request (name_of (command_of c)) (call_tree c) }

-- with the number after the last one used
abbrev pub next_message : Session → Call → Message
next_message s c = message_of (s.used + 1) c

-- what is handed out
abbrev pub sent_bytes : Session → Call → List ℕ
sent_bytes s c = frame_of (canon (next_message s c))

-- ---- the refusals

-- whether a refusal holds of a call, at a client that a fault closed or not
abbrev pub holds : SendFault → Call → Bool → Session → Bool
holds fault.Ended c closed s = closed || is_phase Ended s.seen.phase
holds fault.WrongPhase c closed s = not (is_sent_in (command_of c) s.seen.phase s.seen.ready) && not (waits_for_stop (command_of c) s.seen.phase)
holds fault.NotSupported c closed s = not (is_allowed s.seen.capabilities (command_of c))
holds fault.NotStopped c closed s = waits_for_stop (command_of c) s.seen.phase
holds fault.UnknownReference c closed s = not (are_known c s.seen.known)
holds fault.TooLarge c closed s = nat_lt s.limits.body (length (canon (next_message s c)))
holds fault.Full c closed s = nat_le s.limits.requests (length s.outstanding)
holds fault.SeqExhausted c closed s = nat_le s.limits.seq s.used
holds fault.OutOfMemory c closed s = false

-- those that are told without memory
abbrev pub early_refusals : List SendFault
early_refusals = fault.Ended ∷ fault.WrongPhase ∷ fault.NotSupported ∷ fault.NotStopped ∷ fault.UnknownReference ∷ []

-- those that are measured on the request as it would be written
abbrev pub late_refusals : List SendFault
late_refusals = fault.TooLarge ∷ fault.Full ∷ fault.SeqExhausted ∷ []

abbrev pub refusals_in_order : List SendFault
refusals_in_order = early_refusals ++ late_refusals

abbrev pub first_of : List SendFault → Call → Bool → Session → Option SendFault
first_of faults c closed s = find (λ f. holds f c closed s) faults

-- ---- the session afterwards

abbrev pub after_send : Call → Session → Session
after_send c s = record s { seen = after_sent (s.used + 1) (command_of c) (call_tree c) s.seen; outstanding = s.outstanding ++ kept_unparked (request_of (s.used + 1) c) ∷ []; used = s.used + 1 }

-- A message as the response to a request, and as an event: what is in it, without the envelope.
-- Specification, "Response", "Event".
use Rattle.std.specs.Prelude.{ℕ, List, Bool, Option, Some, None, option_map, ◌==◌, if◌then◌else◌}
use Rattle.serde_json.specs.Data.{Data}
use Rattle.dap_json.specs.Lent.{lent_data}
use Rattle.dap_envelope.specs.declared.message.Kind.{Kind}
use Rattle.dap_envelope.specs.declared.message.Kind.TheVariants as kind
use Rattle.dap_envelope.specs.declared.parts.Event.{Event}
use Rattle.dap_envelope.specs.declared.parts.Response.{Response}

pub record ResponseParts : Type 0 where
  pub success : Bool
  pub command : List ℕ
  pub message : Option (List ℕ)
  pub body : Option Data

pub record EventParts : Type 0 where
  pub name : List ℕ
  pub body : Option Data

-- of a message that is the response to this request
abbrev pub response_parts : ℕ → Kind → Option ResponseParts
response_parts seq (kind.Response request_seq success command message body) =
    if request_seq == seq then Some (record { success = success; command = command; message = message; body = body }) else None
response_parts seq (kind.Request command arguments) = None
response_parts seq (kind.Event event body) = None
response_parts seq (kind.Other tag) = None

-- of a message that is an event
abbrev pub event_parts : Kind → Option EventParts
event_parts (kind.Event event body) = Some (record { name = event; body = body })
event_parts (kind.Request command arguments) = None
event_parts (kind.Response request_seq success command message body) = None
event_parts (kind.Other tag) = None

-- ---- the same, of what is lent

abbrev pub parts_of_response : Response → ResponseParts
parts_of_response r = record { success = r.success; command = r.command.now; message = option_map (λ text. text.now) r.message; body = lent_data r.body }

abbrev pub parts_of_event : Event → EventParts
parts_of_event e = record { name = e.name.now; body = lent_data e.body }

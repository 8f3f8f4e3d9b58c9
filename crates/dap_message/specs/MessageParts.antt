-- Messages by their parts: failures, responses and events, which bodies have a fixed shape, and each event's name and body.
-- Specification, "ErrorResponse", "ContinueResponse" and "Events".
use Rattle.std.specs.Prelude.{ℕ, ℤ, List, [], codes, ◌&&◌, Bool, false, true, Option, Some, None}
use Rattle.serde_json.specs.Data.{Data}
use Rattle.dap_json.specs.declared.more.Member.{Member}
use Rattle.dap_command.specs.Numbers.{is_number, is_none_or}
use Rattle.dap_body.specs.Failure.{row_of, failure_body, explained_body}
use Rattle.dap_body.specs.EventBody.{output_body, stopped_body, continued_body, exited_body}
use Rattle.dap_body.specs.declared.body.Body.{Body}
use Rattle.dap_body.specs.declared.body.Body.TheVariants.{Continue, RunInTerminal}
use Rattle.dap_body.specs.declared.failure.Failure.{Failure}
use Rattle.dap_body.specs.declared.failure.Failure.TheVariants.{Debuggee}
use Rattle.dap_envelope.specs.declared.message.Message.{Message}
use Rattle.dap_envelope.specs.declared.message.Kind.TheVariants.{Request, Response, Event}
use Rattle.dap_message.specs.declared.outcome.Outcome.{Outcome}
use Rattle.dap_message.specs.declared.outcome.Outcome.TheVariants as outcome
use Rattle.dap_json.specs.Writable.{is_plain_tree}

-- ---- the kinds

abbrev pub request_message : ℕ → List ℕ → Option Data → Message
request_message seq command arguments = record { seq = seq; kind = Request command arguments }

abbrev pub failure_response : ℕ → ℕ → List ℕ → Failure → Message
failure_response seq request_seq command failure = record { seq = seq; kind = Response request_seq false command (Some (row_of failure).name) (Some (failure_body failure)) }

-- the failure of what the debuggee refused, with what it says of why: whether the client's user should see that, and the text
abbrev pub explained_response : ℕ → ℕ → List ℕ → Bool → List ℕ → Message
explained_response seq request_seq command show_user why =
    record { seq = seq; kind = Response request_seq false command (Some (row_of Debuggee).name) (Some (explained_body show_user why)) }

abbrev pub success_response : ℕ → ℕ → List ℕ → Option Data → Message
success_response seq request_seq command body = record { seq = seq; kind = Response request_seq true command None body }

-- a failure with a message and a body of its own
abbrev pub worded_response : ℕ → ℕ → List ℕ → List ℕ → Option Data → Message
worded_response seq request_seq command message body = record { seq = seq; kind = Response request_seq false command (Some message) body }

-- as whoever holds the adapter says how a request came out
abbrev pub outcome_response : ℕ → ℕ → List ℕ → Outcome → Message
outcome_response seq request_seq command (outcome.Success body) = success_response seq request_seq command body
outcome_response seq request_seq command (outcome.Failure message body) = worded_response seq request_seq command message body

abbrev pub is_plain_outcome : Outcome → Bool
is_plain_outcome (outcome.Success body) = is_plain_tree body
is_plain_outcome (outcome.Failure message body) = is_plain_tree body

abbrev pub event_message : ℕ → List ℕ → Option Data → Message
event_message seq event body = record { seq = seq; kind = Event event body }

-- ---- bodies of a fixed shape, with their numbers in range

abbrev pub has_fixed_shape : Option Body → Bool
has_fixed_shape None = true
has_fixed_shape (Some Continue) = true
has_fixed_shape (Some (RunInTerminal process shell)) = is_none_or is_number process && is_none_or is_number shell
has_fixed_shape _ = false

-- ---- events

pub data AdapterEvent : Type 0 where
  initialized : AdapterEvent
  output : List ℕ → List ℕ → List Member → AdapterEvent
  stopped : List ℕ → ℤ → List Member → AdapterEvent
  continued : ℤ → AdapterEvent
  exited : ℤ → AdapterEvent
  terminated : AdapterEvent
  -- one that whoever holds the adapter tells by its name
  named : List ℕ → Option Data → AdapterEvent

abbrev pub event_name : AdapterEvent → List ℕ
event_name initialized = codes "initialized"
event_name (output category text more) = codes "output"
event_name (stopped reason thread more) = codes "stopped"
event_name (continued thread) = codes "continued"
event_name (exited code) = codes "exited"
event_name terminated = codes "terminated"
event_name (named name body) = name

abbrev pub event_body : AdapterEvent → Option Data
event_body initialized = None
event_body (output category text more) = Some (output_body category text more)
event_body (stopped reason thread more) = Some (stopped_body reason thread more)
event_body (continued thread) = Some (continued_body thread)
event_body (exited code) = Some (exited_body code)
event_body terminated = None
event_body (named name body) = body

-- the event with no more beside it than its own members
abbrev pub without_more : AdapterEvent → AdapterEvent
without_more (output category text more) = output category text []
without_more (stopped reason thread more) = stopped reason thread []
without_more event = event

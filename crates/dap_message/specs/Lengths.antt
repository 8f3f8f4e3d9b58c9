-- How long what is written can become, where its shape is fixed: each failure, each event, and each response whose body is none or one of a fixed shape; and how long what is around any other body.
-- Specification, "ErrorResponse", "ContinueResponse", "RunInTerminalResponse" and "Events". The limits, and that 1024 bytes are enough, are this profile's choice.
use Rattle.std.specs.Prelude.{ℕ, ◌≤◌, ◌&&◌, ℤ, pos, negsuc, int_le, nat_le, List, [], length, Bool, Option, IsTrue, ⊤, if◌then◌else◌, ◌+◌, Some}
use Rattle.serde_json.specs.Data.{Data}
use Rattle.serde_json.specs.Written.{compact_text}
use Rattle.dap_json.specs.Field.{max_seq}
use Rattle.dap_json.specs.Names.{is_name}
use Rattle.dap_json.specs.declared.more.Member.{Member}
use Rattle.dap_command.specs.Numbers.{is_int}
use Rattle.dap_command.specs.Offer.{usual_offer}
use Rattle.dap_command.specs.declared.offer.Offer.{Offer}
use Rattle.dap_body.specs.Body.{data_in}
use Rattle.dap_body.specs.ResponseBody.{offer_body}
use Rattle.dap_body.specs.declared.body.Body.{Body}
use Rattle.dap_body.specs.declared.failure.Failure.{Failure}
use Rattle.dap_message.specs.MessageParts.{failure_response, success_response, event_message, has_fixed_shape, AdapterEvent, initialized, output, stopped, continued, exited, terminated, named, event_name, event_body, without_more}
use Rattle.dap_envelope.specs.Canon.{canon}
use Rattle.dap_envelope.specs.Refusals.{max_command}
use Rattle.dap_envelope.specs.declared.message.Message.{Message}

-- -2147483648 to 2147483647
abbrev pub is_exit_code : ℤ → Bool
is_exit_code z = int_le (negsuc 2147483647) z && int_le z (pos 2147483647)

-- what a debuggee tells at most: a category that is a name, a text of 128 bytes, a reason of 64. Of what it says beside them nothing is said. An event that is told by its name is none of its.
abbrev pub IsWithin : AdapterEvent → Type 0
IsWithin initialized = ⊤
IsWithin (output category text more) = IsTrue (is_name category) × (length text ≤ 128)
IsWithin (stopped reason thread more) = (length reason ≤ 64) × IsTrue (is_int thread)
IsWithin (continued thread) = IsTrue (is_int thread)
IsWithin (exited code) = IsTrue (is_exit_code code)
IsWithin terminated = ⊤
IsWithin (named name body) = ⊥

-- ---- what fits

-- the event's message has at most so many bytes
abbrev pub event_fits : ℕ → ℕ → AdapterEvent → Bool
event_fits most seq event = nat_le (length (canon (event_message seq (event_name event) (event_body event)))) most

-- what is said beside an event's own members: nothing where its message would be longer
abbrev pub more_within : ℕ → ℕ → AdapterEvent → List Member → List Member
more_within most seq event more = if event_fits most seq event then more else []

-- the event as it is told
abbrev pub event_within : ℕ → ℕ → AdapterEvent → AdapterEvent
event_within most seq (output category text more) = output category text (more_within most seq (output category text more) more)
event_within most seq (stopped reason thread more) = stopped reason thread (more_within most seq (stopped reason thread more) more)
event_within most seq event = event

-- ---- the laws

abbrev pub max_fixed : ℕ
max_fixed = 1024

abbrev pub IsShort : Message → Type 0
IsShort m = length (canon m) ≤ max_fixed

abbrev pub FailuresAreShort : Type 0
FailuresAreShort = (seq request_seq : ℕ) (command : List ℕ) (failure : Failure) → seq ≤ max_seq → request_seq ≤ max_seq → length command ≤ max_command
    → IsShort (failure_response seq request_seq command failure)

abbrev pub FixedResponsesAreShort : Type 0
FixedResponsesAreShort = (seq request_seq : ℕ) (command : List ℕ) (body : Option Body) → IsTrue (has_fixed_shape body) → seq ≤ max_seq → request_seq ≤ max_seq → length command ≤ max_command
    → IsShort (success_response seq request_seq command (data_in body))

-- what is around the body of a response has so many bytes at most
abbrev pub max_around : ℕ
max_around = 512

abbrev pub WhatIsAroundIsShort : Type 0
WhatIsAroundIsShort = (seq request_seq : ℕ) (command : List ℕ) (body : Data) → seq ≤ max_seq → request_seq ≤ max_seq → length command ≤ max_command
    → length (canon (success_response seq request_seq command (Some body))) ≤ length (compact_text body) + max_around

-- ---- what is offered

-- the body has at most so many bytes that a message with it has no more than these, whatever its numbers
abbrev pub offer_fits : ℕ → Offer → Bool
offer_fits most offer = nat_le (length (compact_text (offer_body offer)) + max_around) most

abbrev pub TheUsualOfferFits : Type 0
TheUsualOfferFits = (most : ℕ) → max_fixed ≤ most → IsTrue (offer_fits most usual_offer)

abbrev pub EventsAreShort : Type 0
EventsAreShort = (seq : ℕ) (event : AdapterEvent) → seq ≤ max_seq → IsWithin event → IsShort (event_message seq (event_name event) (event_body (without_more event)))

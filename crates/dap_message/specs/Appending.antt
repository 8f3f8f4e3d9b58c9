-- Texts of messages that are appended to a buffer, and that each of them is read again.
use Rattle.std.specs.Prelude.{◌≡◌, ◌≤◌, ◌++◌, ℕ, List, length, Bool, Option, Vec}
use Rattle.serde_json.specs.Data.{Data}
use Rattle.dap_json.specs.Field.{max_seq}
use Rattle.dap_body.specs.Body.{data_in, event_data_in}
use Rattle.dap_body.specs.declared.body.Body.{Body}
use Rattle.dap_body.specs.declared.event.EventBody.{EventBody}
use Rattle.dap_body.specs.declared.failure.Failure.{Failure}
use Rattle.dap_envelope.specs.Canon.{canon}
use Rattle.dap_envelope.specs.Meaning.{Msg}
use Rattle.dap_envelope.specs.Refusals.{max_command}
use Rattle.dap_envelope.specs.declared.message.Message.{Message}
use Rattle.dap_message.specs.MessageParts.{request_message, failure_response, explained_response, success_response, outcome_response, event_message}
use Rattle.dap_message.specs.declared.outcome.Outcome.{Outcome}

-- the canonical text of a message is behind what was there
abbrev pub AddsText : {A : Type 0} → Message → Vec ℕ A → Vec ℕ A → Type 0
AddsText m old new = new.items ≡ old.items ++ canon m

abbrev pub AddsFailure : {A : Type 0} → ℕ → ℕ → List ℕ → Failure → Vec ℕ A → Vec ℕ A → Type 0
AddsFailure seq request_seq command failure old new = AddsText (failure_response seq request_seq command failure) old new

abbrev pub AddsExplained : {A : Type 0} → ℕ → ℕ → List ℕ → Bool → List ℕ → Vec ℕ A → Vec ℕ A → Type 0
AddsExplained seq request_seq command show_user why old new = AddsText (explained_response seq request_seq command show_user why) old new

abbrev pub AddsAnswer : {A : Type 0} → ℕ → ℕ → List ℕ → Option Body → Vec ℕ A → Vec ℕ A → Type 0
AddsAnswer seq request_seq command body old new = AddsText (success_response seq request_seq command (data_in body)) old new

-- a response as whoever holds the adapter says it
abbrev pub AddsOutcome : {A : Type 0} → ℕ → ℕ → List ℕ → Outcome → Vec ℕ A → Vec ℕ A → Type 0
AddsOutcome seq request_seq command outcome old new = AddsText (outcome_response seq request_seq command outcome) old new

abbrev pub AddsEvent : {A : Type 0} → ℕ → List ℕ → Option EventBody → Vec ℕ A → Vec ℕ A → Type 0
AddsEvent seq event body old new = AddsText (event_message seq event (event_data_in body)) old new

-- an event that is told by its name, with a tree as its body
abbrev pub AddsNamedEvent : {A : Type 0} → ℕ → List ℕ → Option Data → Vec ℕ A → Vec ℕ A → Type 0
AddsNamedEvent seq event body old new = AddsText (event_message seq event body) old new

abbrev pub AddsRequest : {A : Type 0} → ℕ → List ℕ → Option Data → Vec ℕ A → Vec ℕ A → Type 0
AddsRequest seq command arguments old new = AddsText (request_message seq command arguments) old new

-- the text of a message is read as that message
abbrev pub CanonIsRead : Message → Type 0
CanonIsRead m = Msg (canon m) m

-- where its numbers are in their range, and its command is no longer than one may be
abbrev pub FailureReadsBack : ℕ → ℕ → List ℕ → Failure → Type 0
FailureReadsBack seq request_seq command failure =
    seq ≤ max_seq → request_seq ≤ max_seq → length command ≤ max_command → CanonIsRead (failure_response seq request_seq command failure)

abbrev pub ExplainedReadsBack : ℕ → ℕ → List ℕ → Bool → List ℕ → Type 0
ExplainedReadsBack seq request_seq command show_user why =
    seq ≤ max_seq → request_seq ≤ max_seq → length command ≤ max_command → CanonIsRead (explained_response seq request_seq command show_user why)

abbrev pub AnswerReadsBack : ℕ → ℕ → List ℕ → Option Body → Type 0
AnswerReadsBack seq request_seq command body =
    seq ≤ max_seq → request_seq ≤ max_seq → length command ≤ max_command → CanonIsRead (success_response seq request_seq command (data_in body))

abbrev pub OutcomeReadsBack : ℕ → ℕ → List ℕ → Outcome → Type 0
OutcomeReadsBack seq request_seq command outcome =
    seq ≤ max_seq → request_seq ≤ max_seq → length command ≤ max_command → CanonIsRead (outcome_response seq request_seq command outcome)

abbrev pub EventReadsBack : ℕ → List ℕ → Option EventBody → Type 0
EventReadsBack seq event body = seq ≤ max_seq → CanonIsRead (event_message seq event (event_data_in body))

abbrev pub NamedEventReadsBack : ℕ → List ℕ → Option Data → Type 0
NamedEventReadsBack seq event body = seq ≤ max_seq → CanonIsRead (event_message seq event body)

abbrev pub RequestReadsBack : ℕ → List ℕ → Option Data → Type 0
RequestReadsBack seq command arguments = seq ≤ max_seq → length command ≤ max_command → CanonIsRead (request_message seq command arguments)

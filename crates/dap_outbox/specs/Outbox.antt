-- What a call is about to write, behind what its buffer had before.
use Rattle.std.specs.Prelude.{◌≡◌, ℕ, ◌+◌, ◌≤◌, List, [], ◌∷◌, ◌++◌, length, take, drop, nat_le, Bool, IsTrue, Option, Some, None}
use Rattle.serde_json.specs.Data.{Data}
use Rattle.dap_json.specs.Field.{max_seq}
use Rattle.dap_message.specs.MessageParts.{AdapterEvent, initialized, output, stopped, continued, exited, terminated, named, success_response, explained_response, outcome_response, request_message}
use Rattle.dap_message.specs.declared.outcome.Outcome.{Outcome}
use Rattle.dap_body.specs.Body.{data_in}
use Rattle.dap_message.specs.Lengths.{max_fixed, event_within}
use Rattle.dap_envelope.specs.Canon.{canon}
use Rattle.dap_envelope.specs.ReadBack.{AllReadBack}
use Rattle.dap_body.specs.declared.body.Body.{Body}
use Rattle.dap_body.specs.declared.body.Body.TheVariants as body
use Rattle.dap_debuggee.specs.Shown.{category_name}
use Rattle.dap_debuggee.specs.declared.explanation.Explanation.{Explanation}
use Rattle.dap_tables.specs.Seq.{Numbers}
use Rattle.dap_tables.specs.declared.entry.Entry.{Entry as Request}
use Rattle.dap_outbox.specs.declared.answer.Answer.{Answer}
use Rattle.dap_outbox.specs.declared.answer.Answer.TheVariants.{Success, Failure}
use Rattle.dap_outbox.specs.declared.answer.Fixed.{Fixed}
use Rattle.dap_outbox.specs.declared.answer.Fixed.TheVariants.{Continue}
use Rattle.dap_outbox.specs.declared.answer.Event.{Event}
use Rattle.dap_outbox.specs.declared.answer.Event.TheVariants.{Initialized, Output, Stopped, Continued, Exited, Terminated}
use Rattle.dap_outbox.specs.InRange.{AreDraftsInRange, IsRequestInRange}
use Rattle.dap_outbox.specs.Draft.{Answer as AnswerWord, success, failure, explained, came_out, Draft, reply, emit, ask_named, numbered_messages, bytes_of}

-- what the buffer had before, the bytes of the messages behind it, and the own numbers that are left after them
pub record OutboxState : Type 0 where
  pub before : List ℕ
  pub bytes : List ℕ
  pub numbers : Numbers

-- as it is stored: one buffer, and how many bytes it had before
abbrev pub state_of : ℕ → List ℕ → Numbers → OutboxState
state_of start items numbers = record { before = take start items; bytes = drop start items; numbers = numbers }

-- ---- what is written

abbrev pub shape_of : Option Fixed → Option Body
shape_of None = None
shape_of (Some Continue) = Some body.Continue

abbrev pub answer_of : Answer → AnswerWord
answer_of (Success fixed) = success (data_in (shape_of fixed)) []
answer_of (Failure f) = failure f

abbrev pub event_of : Event → AdapterEvent
event_of Initialized = initialized
event_of (Output category text more) = output (category_name category) text more
event_of (Stopped reason thread more) = stopped reason thread more
event_of (Continued thread) = continued thread
event_of (Exited code) = exited code
event_of Terminated = terminated

-- no message yet, and these own numbers
pub record IsReady (outbox : OutboxState) (numbers : Numbers) : Type 0 where
  pub none : outbox.bytes ≡ []
  pub numbers_are : outbox.numbers ≡ numbers

-- the outbox holds just these messages, numbered after the first ones that were used; a client whose bodies have at most so many bytes reads each, where the requests that they answer, and the names that they ask by, are in range
pub record Holds (outbox : OutboxState) (limit used : ℕ) (ds : List Draft) : Type 0 where
  pub bytes : outbox.bytes ≡ bytes_of (numbered_messages used ds)
  pub count : outbox.numbers.used ≡ used + length ds
  pub in_range : outbox.numbers.last ≤ max_seq
  pub room : max_fixed ≤ limit
  pub reads_back : AreDraftsInRange ds → AllReadBack limit (numbered_messages used ds)

-- one message more, which a client reads whose bodies may have so many bytes
pub record AppendsDraft (most : ℕ) (old new : OutboxState) (d : Draft) : Type 0 where
  pub last : new.numbers.last ≡ old.numbers.last
  pub given : new.numbers.used ≡ old.numbers.used + 1
  pub holds : (limit used : ℕ) (ds : List Draft) → most ≤ limit → Holds old limit used ds → Holds new limit used (ds ++ d ∷ [])

-- no message yet, of a session that has used so many numbers
abbrev pub HoldsNone : OutboxState → Numbers → Type 0
HoldsNone outbox numbers = (limit : ℕ) → max_fixed ≤ limit → numbers.last ≤ max_seq → Holds outbox limit numbers.used []

-- a request is answered, or an event is told
abbrev pub AppendsReply : OutboxState → OutboxState → Request → Answer → Type 0
AppendsReply old new request answer = AppendsDraft max_fixed old new (reply request (answer_of answer))

-- an event, with what is said beside its own members where that fits
abbrev pub AppendsEvent : ℕ → OutboxState → OutboxState → Event → Type 0
AppendsEvent most old new event = AppendsDraft most old new (emit (event_within most (old.numbers.used + 1) (event_of event)))

-- where what is written of this answer has at most so many bytes, a client reads it whose bodies may have as many
abbrev pub IsAnswerWithin : ℕ → OutboxState → Request → Option Body → Type 0
IsAnswerWithin most old request given =
    old.numbers.used + 1 ≤ max_seq → IsRequestInRange request → length (canon (success_response (old.numbers.used + 1) request.seq request.command (data_in given))) ≤ most

abbrev pub AppendsAnswer : OutboxState → OutboxState → Request → Option Body → Type 0
AppendsAnswer old new request given = (most : ℕ) → IsAnswerWithin most old request given → AppendsDraft most old new (reply request (success (data_in given) []))

-- whether the answer to a request with a body has at most so many bytes
abbrev pub answer_fits : ℕ → OutboxState → Request → Option Body → Bool
answer_fits most old request given = nat_le (length (canon (success_response (old.numbers.used + 1) request.seq request.command (data_in given)))) most

-- if it has, the request is answered so
abbrev pub AnswersIfFits : ℕ → OutboxState → OutboxState → Request → Option Body → Bool → Type 0
AnswersIfFits most old new request given fits = IsTrue fits → AppendsDraft most old new (reply request (success (data_in given) []))

-- if an event with all that is said beside it has, it is told
abbrev pub EmitsIfFits : ℕ → OutboxState → OutboxState → Event → Bool → Type 0
EmitsIfFits most old new event fits = IsTrue fits → AppendsDraft most old new (emit (event_of event))

-- an event of any name, with a tree as its body, if its message has
abbrev pub EmitsNamedIfFits : ℕ → OutboxState → OutboxState → List ℕ → Option Data → Bool → Type 0
EmitsNamedIfFits most old new event given fits = IsTrue fits → AppendsDraft most old new (emit (named event given))

-- whether a request of any name, with this own number, has at most so many bytes
abbrev pub request_fits : ℕ → ℕ → List ℕ → Option Data → Bool
request_fits most seq command given = nat_le (length (canon (request_message seq command given))) most

-- if it has, it is asked
abbrev pub AsksNamedIfFits : ℕ → OutboxState → OutboxState → List ℕ → Option Data → Bool → Type 0
AsksNamedIfFits most old new command given fits = IsTrue fits → AppendsDraft most old new (ask_named command given)

-- whether a failure with why the debuggee refused, and with this own number, has at most so many bytes
abbrev pub explanation_fits_as : ℕ → ℕ → Request → Explanation → Bool
explanation_fits_as seq most request e = nat_le (length (canon (explained_response seq request.seq request.command e.show_user e.text))) most

-- with the number that comes next
abbrev pub explanation_fits : ℕ → OutboxState → Request → Explanation → Bool
explanation_fits most old request e = explanation_fits_as (old.numbers.used + 1) most request e

abbrev pub ExplainsIfFits : ℕ → OutboxState → OutboxState → Request → Explanation → Bool → Type 0
ExplainsIfFits most old new request e fits = IsTrue fits → AppendsDraft most old new (reply request (explained e))

-- whether the response to a request that came out so, with this own number, has at most so many bytes
abbrev pub outcome_fits : ℕ → ℕ → Request → Outcome → Bool
outcome_fits most seq request o = nat_le (length (canon (outcome_response seq request.seq request.command o))) most

-- if it has, the request is answered so
abbrev pub RespondsIfFits : ℕ → OutboxState → OutboxState → Request → Outcome → Bool → Type 0
RespondsIfFits most old new request o fits = IsTrue fits → AppendsDraft most old new (reply request (came_out o))

-- What the calls of a client do, as their contracts say it.
use Rattle.std.specs.Prelude.{◌≡◌, ◌≢◌, ◌⊎◌, ◌<◌, ℕ, List, [], ◌∷◌, ◌++◌, length, take, drop, Option, Some, None, Ok, Err, is_some, option_map, Vec}
use Rattle.std.specs.Borrow.{Bor}
use Rattle.std.specs.List.{slice_get}
use Rattle.dap_frame.specs.Feeds.{Gathers}
use Rattle.dap_frame.specs.Intake.{Intake}
use Rattle.dap_frame.specs.Settings.{Settings, bounds_of}
use Rattle.dap_history.specs.History.{Asked, In, Out}
use Rattle.dap_history.specs.Pieces.{Whole, FrameClosed, BodyRefused, NeedsMemory}
use Rattle.dap_envelope.specs.Meaning.{Msg}
use Rattle.dap_envelope.specs.ReadBack.{AllReadBack, ReadsBack}
use Rattle.dap_call.specs.declared.call.Call.{Call}
use Rattle.dap_envelope.specs.declared.message.Message.{Message}
use Rattle.dap_client.specs.declared.fault.ClientFault.{ClientFault}
use Rattle.dap_client.specs.declared.fault.ClientFault.TheVariants.{Frame, Body, OutOfMemory}
use Rattle.dap_client.specs.declared.fault.SendFault.{SendFault}
use Rattle.dap_client.specs.declared.fault.AnswerFault.{AnswerFault}
use Rattle.dap_client.specs.declared.got.Got.{Got}
use Rattle.dap_client.specs.declared.terminal.Terminal.{Terminal}
use Rattle.dap_client.specs.TerminalResponse.{first_terminal_refusal, next_terminal_response, terminal_response_bytes, after_terminal_response}
use Rattle.dap_client.specs.ClientState.{ClientState}
use Rattle.dap_client.specs.Keeping.{IsWhyNotSent, IsWhyNotAnswered}
use Rattle.dap_client.specs.Sending.{first_of, refusals_in_order, next_message, sent_bytes, after_send}
use Rattle.dap_client.specs.Session.{Session}
use Rattle.dap_client.specs.StandsFor.{GoesOn}
use Rattle.dap_client.specs.Taking.{Made, takes, entries_of, bytes_of}
use Rattle.dap_reader.specs.Reader.{Reader}

-- ---- what is looked at

-- the number of the oldest of these
abbrev pub oldest_asked : List Asked → Option ℕ
oldest_asked qs = option_map (λ q. q.seq) (slice_get qs 0)

-- ---- send

-- what is handed out
abbrev pub request_bytes : ClientState → Call → List ℕ
request_bytes e c = sent_bytes e.session c

abbrev pub client_after_sending : Call → ClientState → ClientState
client_after_sending c e = record e { session = after_send c e.session }

-- the request is read as it was meant
abbrev pub IsRequestReadBack : ClientState → Call → Type 0
IsRequestReadBack e c = ReadsBack e.session.limits.body (next_message e.session c)

-- no bytes are used, and the request goes out
abbrev pub GoesOnBySending : ClientState → Call → ClientState → Type 0
GoesOnBySending old c new = GoesOn old new [] (Out (next_message old.session c) [] ∷ [])

-- the first refusal that holds of a call
abbrev pub refusal_of : Call → ClientState → Option SendFault
refusal_of c e = first_of refusals_in_order c (is_some e.fault) e.session

-- why a call was not sent
abbrev pub NotSent : SendFault → Call → ClientState → Type 0
NotSent f c e = IsWhyNotSent f c (is_some e.fault) e.session

-- ---- answer

-- what is handed out
abbrev pub answer_bytes : ClientState → ℕ → Terminal → List ℕ
answer_bytes e request_seq terminal = terminal_response_bytes e.session request_seq terminal

abbrev pub client_after_answering : ℕ → ClientState → ClientState
client_after_answering request_seq e = record e { session = after_terminal_response request_seq e.session }

-- the response is read as it was meant
abbrev pub IsAnswerReadBack : ClientState → ℕ → Terminal → Type 0
IsAnswerReadBack e request_seq terminal = ReadsBack e.session.limits.body (next_terminal_response e.session request_seq terminal)

-- no bytes are used, and the response goes out
abbrev pub GoesOnByAnswering : ClientState → ℕ → Terminal → ClientState → Type 0
GoesOnByAnswering old request_seq terminal new = GoesOn old new [] (Out (next_terminal_response old.session request_seq terminal) [] ∷ [])

-- the first refusal that holds of an answer to a request of that number
abbrev pub answer_refusal_of : ℕ → ClientState → Option AnswerFault
answer_refusal_of request_seq e = first_terminal_refusal request_seq (is_some e.fault) e.session

-- why a request was not answered: the first refusal that holds; or memory was refused, and none holds
abbrev pub NotAnswered : AnswerFault → ℕ → ClientState → Type 0
NotAnswered f request_seq e = IsWhyNotAnswered f request_seq (is_some e.fault) e.session

-- ---- take

-- a message came whole, and this was made of it
pub record Delivers (old : ClientState) (piece : List ℕ) (got : Got) (m : Message) (new : ClientState) : Type 0 where
  pub whole : Whole old.intake piece got.used
  pub read : Msg whole.ready.held m
  pub made : Made
  pub is : takes m old.session ≡ Ok made
  pub session : new.session ≡ made.after
  pub bytes_are : got.bytes.items ≡ bytes_of made
  -- the adapter reads what is written
  pub reads_back : AllReadBack old.session.limits.body made.written
  pub goes_on : GoesOn old new (take got.used piece) (In m ∷ entries_of made)

-- the frame is still under way, and nothing else changed
pub record Waits (old : ClientState) (piece : List ℕ) (got : Got) (new : ClientState) : Type 0 where
  pub gathers : Gathers old.intake new.intake piece got.used
  pub none_written : got.bytes.items ≡ []
  pub session : new.session ≡ old.session
  pub goes_on : GoesOn old new piece []

abbrev pub Takes : ClientState → List ℕ → Got → Option Message → ClientState → Type 0
Takes old piece got None new = Waits old piece got new
Takes old piece got (Some m) new = Delivers old piece got m new

-- a message came whole that closes the client
pub record ClosedBy (old : Intake) (s : Session) (piece : List ℕ) (fault : ClientFault) : Type 0 where
  pub n : ℕ
  pub whole : Whole old piece n
  pub message : Message
  pub read : Msg whole.ready.held message
  pub closes : takes message s ≡ Err fault

-- why a call on a piece was refused
abbrev pub TakeRefused : Intake → Session → List ℕ → ClientFault → Type 0
TakeRefused old s piece (Frame fault) = FrameClosed old piece fault
TakeRefused old s piece (Body cause offset) = BodyRefused old piece cause offset
TakeRefused old s piece OutOfMemory = NeedsMemory old piece
TakeRefused old s piece fault = ClosedBy old s piece fault

-- or one of an open client
abbrev pub PieceNotTaken : ClientState → List ℕ → ClientFault → Type 0
PieceNotTaken e piece fault = e.fault ≡ None → TakeRefused e.intake e.session piece fault

-- ---- next

-- what `take` does, with the bytes used cut off and what is to be written appended
pub record TakesNext (old : ClientState) (piece before : List ℕ) (message : Option Message) (new : ClientState) (left after : List ℕ) : Type 0 where
  pub got : Got
  pub takes_it : Takes old piece got message new
  pub left_is : left ≡ drop got.used piece
  pub appended : after ≡ before ++ got.bytes.items

-- the same of a piece that has bytes, and of a buffer
abbrev pub NextIs : {A : Type 0} → ClientState → Bor (List ℕ) → Vec ℕ A → ClientState → Bor (List ℕ) → Vec ℕ A → Option Message → Type 0
NextIs old piece before new left after message = 0 < length piece.now → TakesNext old piece.now before.items message new left.now after.items

-- memory was refused for what is to be written: the message was taken, and is not delivered
pub record LosesMessage (old : ClientState) (piece : List ℕ) (fault : ClientFault) (new : ClientState) : Type 0 where
  pub is : fault ≡ OutOfMemory
  pub got : Got
  pub message : Message
  pub there : ClientState
  pub delivers : Delivers old piece got message there
  pub some : got.bytes.items ≢ []
  pub session : new.session ≡ there.session

-- `take` was refused, and the tables are as they were, or its bytes were
abbrev pub NextRefused : ClientState → List ℕ → ClientFault → ClientState → Type 0
NextRefused old piece fault new = (TakeRefused old.intake old.session piece fault × (new.session ≡ old.session)) ⊎ LosesMessage old piece fault new

-- or where the client was open
abbrev pub NextNotGiven : ClientState → List ℕ → ClientState → ClientFault → Type 0
NextNotGiven old piece new fault = old.fault ≡ None → NextRefused old piece fault new

-- of a piece with bytes fewer are left
abbrev pub Shortens : List ℕ → List ℕ → Type 0
Shortens before after = 0 < length before → length after < length before

-- this is so of an open client and a piece without bytes
abbrev pub WhereIdle : ClientState → List ℕ → Type 0 → Type 0
WhereIdle e piece says = e.fault ≡ None → piece ≡ [] → says

-- ---- what holds between calls

-- what holds of every client
pub record IsClient (limits : Settings) (reader : Reader) (fault : Option ClientFault) : Type 0 where
  pub bounds : reader.intake.bounds ≡ bounds_of limits
  pub reads : fault ≡ None → reader.fault ≡ None
  -- after a fault nothing is held
  pub closed : (f : ClientFault) → fault ≡ Some f → reader.intake.held ≡ []

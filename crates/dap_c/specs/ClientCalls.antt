-- What the exports of a client do, in the words of dap_client, over the client behind the handle.
-- A word on an export takes what the caller gives, the code, what is told, and the client before and after.
use Rattle.std.specs.Prelude.{◌≡◌, ◌⊎◌, ℕ, ◌+◌, ◌==◌, List, [], ◌∷◌, ◌++◌, length, take, Bool, true, false, Option, Some, None, is_some, IsTrue, IsUtf8, if◌then◌else◌}
use Rattle.dap_history.specs.History.{Out}
use Rattle.dap_envelope.specs.ReadBack.{ReadsBack}
use Rattle.dap_call.specs.PlainCall.{is_plain_call}
use Rattle.dap_call.specs.declared.call.Call.{Call}
use Rattle.dap_client.specs.Calls.{refusal_of, answer_refusal_of, NotSent, NotAnswered, Takes, TakeRefused}
use Rattle.dap_client.specs.Sending.{next_message, sent_bytes, after_send}
use Rattle.dap_client.specs.Session.{fresh_session}
use Rattle.dap_client.specs.StandsFor.{GoesOn}
use Rattle.dap_client.specs.TerminalResponse.{is_plain_terminal, next_terminal_response, terminal_response_bytes, after_terminal_response}
use Rattle.dap_client.specs.declared.fault.AnswerFault.{AnswerFault}
use Rattle.dap_client.specs.declared.fault.ClientFault.{ClientFault}
use Rattle.dap_client.specs.declared.fault.SendFault.{SendFault}
use Rattle.dap_client.specs.declared.got.Got.{Got}
use Rattle.dap_client.specs.declared.terminal.Terminal.{Terminal}
use Rattle.dap_client.specs.declared.terminal.Terminal.TheVariants.{Started, Refused}
use Rattle.dap_c.specs.CallGiven.{IsCallOf, IsCodeOfCall}
use Rattle.dap_c.specs.ClientFaults.{send_number, answer_number, take_number, IsFaultFound}
use Rattle.dap_c_parts.specs.Buffer.{with_front}
use Rattle.dap_c_parts.specs.Finds.{FindsNothing}
use Rattle.dap_c_parts.specs.Limited.{settings_of}
use Rattle.dap_c_parts.specs.declared.found.YtFound.{YtFound}
use Rattle.dap_c_parts.specs.declared.limits.YtLimits.{YtLimits}
use Rattle.dap_c.specs.declared.client.YtSent.{YtSent}
use Rattle.dap_c.specs.declared.held_client.HeldClient.{HeldClient}

-- a client within these limits, that has sent nothing and to which nothing came
abbrev pub IsFreshWithin : YtLimits → HeldClient → Type 0
IsFreshWithin limits h = h.client.session ≡ fresh_session (settings_of limits)

abbrev pub KeepsLimits : HeldClient → HeldClient → Type 0
KeepsLimits old new = new.client.session.limits ≡ old.client.session.limits

abbrev pub KeepsTables : HeldClient → HeldClient → Type 0
KeepsTables old new = new.client.session ≡ old.client.session

-- a call was sent, with this number
pub record SendsCall (old new : HeldClient) (call : Call) (seq : ℕ) : Type 0 where
  pub allowed : refusal_of call old.client ≡ None
  pub seq_is : seq ≡ old.client.session.used + 1
  pub bytes_are : new.bytes.items ≡ sent_bytes old.client.session call
  pub session : new.client ≡ record old.client { session = after_send call old.client.session }
  pub reads_back : ReadsBack old.client.session.limits.body (next_message old.client.session call)
  pub goes_on : GoesOn old.client new.client [] (Out (next_message old.client.session call) [] ∷ [])

-- a call was refused with this code, and nothing changed
pub record RefusesCall (old new : HeldClient) (call : Call) (code : ℕ) : Type 0 where
  pub fault : SendFault
  pub code_is : code ≡ send_number fault
  pub why : NotSent fault call old.client
  pub client : new.client ≡ old.client

-- with the code 0 the call that the command and the text of the arguments are was sent
abbrev pub Sends : List ℕ → List ℕ → ℕ → YtSent → HeldClient → HeldClient → Type 0
Sends command arguments code sent old new = code ≡ 0 → (call : Call) × IsCallOf command arguments call × SendsCall old new call sent.seq

-- with another one they are no call, or it was refused
abbrev pub Refuses : List ℕ → List ℕ → ℕ → HeldClient → HeldClient → Type 0
Refuses command arguments code old new =
    (code ≡ 0 → ⊥) → IsCodeOfCall code ⊎ ((call : Call) × IsCallOf command arguments call × RefusesCall old new call code)

-- where the command is a text, and it and the arguments are a call that can be written
abbrev pub IfPlainCall : List ℕ → List ℕ → Type 0 → Type 0
IfPlainCall command arguments P = (call : Call) → IsUtf8 command → IsCallOf command arguments call → IsTrue (is_plain_call call) → P

-- so many bytes are to be written, and wait to be fetched
abbrev pub LeavesBytes : ℕ → HeldClient → HeldClient → Type 0
LeavesBytes count old new = count ≡ length new.bytes.items

-- the frame that can be fetched stays
abbrev pub KeepsFrame : HeldClient → HeldClient → Type 0
KeepsFrame old new = (new.frame ≡ old.frame) × (new.whole ≡ old.whole)

-- what became of a command, as a caller in C says it
abbrev pub process_of : ℕ → Option ℕ
process_of n = if n == 0 then None else Some n

abbrev pub terminal_of : Bool → ℕ → ℕ → Terminal
terminal_of runs process shell = if runs then Started (process_of process) (process_of shell) else Refused

-- it can be written
abbrev pub IsPlainTerminal : Bool → ℕ → ℕ → Type 0
IsPlainTerminal runs process shell = IsTrue (is_plain_terminal (terminal_of runs process shell))

-- a request of the adapter was answered
pub record AnswersTerminal (old new : HeldClient) (request_seq : ℕ) (terminal : Terminal) : Type 0 where
  pub allowed : answer_refusal_of request_seq old.client ≡ None
  pub bytes_are : new.bytes.items ≡ terminal_response_bytes old.client.session request_seq terminal
  pub session : new.client ≡ record old.client { session = after_terminal_response request_seq old.client.session }
  pub reads_back : ReadsBack old.client.session.limits.body (next_terminal_response old.client.session request_seq terminal)
  pub goes_on : GoesOn old.client new.client [] (Out (next_terminal_response old.client.session request_seq terminal) [] ∷ [])

-- it was not, with this code, and nothing changed
pub record RefusesTerminal (old new : HeldClient) (request_seq code : ℕ) : Type 0 where
  pub fault : AnswerFault
  pub code_is : code ≡ answer_number fault
  pub why : NotAnswered fault request_seq old.client
  pub client : new.client ≡ old.client

-- with the code 0 a request of the adapter was answered so
abbrev pub Answers : ℕ → Bool → ℕ → ℕ → ℕ → HeldClient → HeldClient → Type 0
Answers request_seq runs process shell code old new = code ≡ 0 → AnswersTerminal old new request_seq (terminal_of runs process shell)

-- with another one it was not: the answer cannot be written, or was refused
abbrev pub RefusesAnswer : ℕ → ℕ → HeldClient → HeldClient → Type 0
RefusesAnswer request_seq code old new = (code ≡ 0 → ⊥) → (code ≡ 103) ⊎ RefusesTerminal old new request_seq code

-- the bytes that were used since the message before
abbrev pub bytes_so_far : HeldClient → List ℕ
bytes_so_far h = if h.whole then [] else h.frame.items

-- nothing waits to be fetched, and no byte of a frame came
pub record HasNothing (h : HeldClient) : Type 0 where
  pub bytes : h.bytes.items ≡ []
  pub frame : h.frame.items ≡ []
  pub whole : h.whole ≡ false

-- a piece was taken, as dap_client says it, and this was found
pub record TakesBytes (old new : HeldClient) (piece : List ℕ) (found : YtFound) : Type 0 where
  pub got : Got
  pub takes : Takes old.client piece got got.delivered new.client
  pub used : found.used ≡ got.used
  pub bytes_are : new.bytes.items ≡ got.bytes.items
  pub bytes_length : found.bytes ≡ length got.bytes.items
  pub whole : new.whole ≡ is_some got.delivered
  pub frame_is : new.frame.items ≡ bytes_so_far old ++ take got.used piece
  pub frame_length : found.frame ≡ (if is_some got.delivered then length new.frame.items else 0)

-- memory was refused before the piece was taken, and nothing changed
pub record IsAsBefore (old new : HeldClient) (code : ℕ) : Type 0 where
  pub code_is : code ≡ 104
  pub client : new.client ≡ old.client
  pub frame : bytes_so_far new ≡ bytes_so_far old

-- a piece was refused, and the client is closed
pub record RefusesBytes (old new : HeldClient) (piece : List ℕ) (code : ℕ) (found : YtFound) : Type 0 where
  pub fault : ClientFault
  pub code_is : code ≡ take_number fault
  pub found_is : IsFaultFound fault found
  pub why : old.client.fault ≡ None → TakeRefused old.client.intake old.client.session piece fault
  pub latches : new.client.fault ≡ Some fault
  pub session : new.client.session ≡ old.client.session
  pub held : new.client.intake.held ≡ []

-- with the code 0 the piece was taken
abbrev pub TakesPiece : List ℕ → ℕ → YtFound → HeldClient → HeldClient → Type 0
TakesPiece piece code found old new = code ≡ 0 → TakesBytes old new piece found

-- with another one it was not
abbrev pub RefusesPiece : List ℕ → ℕ → YtFound → HeldClient → HeldClient → Type 0
RefusesPiece piece code found old new = (code ≡ 0 → ⊥) → IsAsBefore old new code ⊎ RefusesBytes old new piece code found

-- and then there is nothing to fetch
abbrev pub LeavesNothing : ℕ → YtFound → HeldClient → HeldClient → Type 0
LeavesNothing code found old new = (code ≡ 0 → ⊥) → (new.bytes.items ≡ []) × (new.whole ≡ false) × FindsNothing found

-- a client that a fault has closed stays so, and its code is that of the fault, or of memory
abbrev pub LatchesFault : ℕ → HeldClient → HeldClient → Type 0
LatchesFault code old new = (fault : ClientFault) → old.client.fault ≡ Some fault → ((code ≡ 104) ⊎ (code ≡ take_number fault)) × (new.client ≡ old.client)

-- what is to be written is put into a buffer
abbrev pub PutsBytes : HeldClient → List ℕ → List ℕ → Type 0
PutsBytes h old new = new ≡ with_front h.bytes.items old

-- the frame that became whole is put into a buffer
abbrev pub PutsFrame : HeldClient → List ℕ → List ℕ → Type 0
PutsFrame h old new = (h.whole ≡ true) × (new ≡ with_front h.frame.items old)

-- none became whole, and the buffer stays
abbrev pub HasNoFrame : HeldClient → List ℕ → List ℕ → Type 0
HasNoFrame h old new = (h.whole ≡ false) × (new ≡ old)

-- where a fault has closed it
abbrev pub IfClosed : HeldClient → Type 0 → Type 0
IfClosed h P = (fault : ClientFault) → h.client.fault ≡ Some fault → P

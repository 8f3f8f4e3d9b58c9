-- What the calls of a connection do.
-- Overview, "Base Protocol". That messages which come before a response are kept, and in which order they are given, are this profile's choices.
use Rattle.std.specs.Prelude.{◌≡◌, ◌≢◌, ℕ, ◌+◌, ◌<◌, ◌≤◌, List, [], ◌∷◌, ◌++◌, All, length, take, true, Option, Some, None, is_some, option_to_list, Result, IfErr}
use Rattle.dap_channel.specs.Channel.{IoEvent, Gave, ReadFailed}
use Rattle.dap_channel.specs.Sent.{Sends, WritesShort, saturating_count}
use Rattle.dap_envelope.specs.Parts.{response_parts}
use Rattle.dap_call.specs.declared.call.Call.{Call}
use Rattle.dap_envelope.specs.declared.message.Message.{Message}
use Rattle.dap_client.specs.Calls.{TakesNext, NextRefused, NotSent, NotAnswered, request_bytes, client_after_sending, answer_bytes, client_after_answering}
use Rattle.dap_client.specs.declared.fault.ClientFault.{ClientFault}
use Rattle.dap_client.specs.declared.terminal.Terminal.{Terminal}
use Rattle.dap_connection.specs.ConnectionState.{Wire, ConnectionState}
use Rattle.dap_connection.specs.declared.fault.ConnectionFault.{ConnectionFault}
use Rattle.dap_connection.specs.declared.fault.ConnectionFault.TheVariants.{Send, Answer, Client, Ended, Read, Write, TooManyMessages, TooManyReads, OutOfMemory}

-- ---- what comes

-- bytes that were read are taken up to the next message, if one becomes whole, and what the client writes for it is sent
pub record TakesOne {C : Type 0} (goes : C → IoEvent → C → Type 0) (old : Wire C) (message : Option Message) (new : Wire C) : Type 0 where
  pub out : List ℕ
  pub takes : TakesNext old.client old.unread [] message new.client new.unread out
  pub sends : Sends goes old.channel new.channel out
  pub written : new.written ≡ saturating_count (old.written + length out)

-- one read, where all that was read is taken; none gives bytes at the end of the input
pub record ReadsMore {C : Type 0} (goes : C → IoEvent → C → Type 0) (old new : Wire C) : Type 0 where
  pub none_left : old.unread ≡ []
  pub room : ℕ
  pub some_room : 0 < room
  pub gave : goes old.channel (Gave room new.unread) new.channel
  pub client : new.client ≡ old.client
  pub written : new.written ≡ old.written

-- steps that lead from one to the other, with the messages that come by them, oldest first; nothing is read after the end of the input
pub data Hears {C : Type 0} (goes : C → IoEvent → C → Type 0) (old : Wire C) : List Message → Wire C → Type 0 where
  heard_none : Hears goes old [] old
  then_took : (ms : List Message) (message : Option Message) (s new : Wire C) → Hears goes old ms s → TakesOne goes s message new → Hears goes old (ms ++ option_to_list message) new
  then_read : (ms : List Message) (s new : Wire C) → Hears goes old ms s → ReadsMore goes s new → new.unread ≢ [] → Hears goes old ms new

-- how many steps those are
abbrev pub step_count : {C : Type 0} {goes : C → IoEvent → C → Type 0} {old new : Wire C} {ms : List Message} → Hears goes old ms new → ℕ
step_count heard_none = 0
step_count (then_took ms message s new before took) = step_count before + 1
step_count (then_read ms s new before read some) = step_count before + 1

-- none comes, and the last read found the end of the input
pub record HearsEnd {C : Type 0} (goes : C → IoEvent → C → Type 0) (old new : Wire C) : Type 0 where
  pub before : Wire C
  pub heard : Hears goes old [] before
  pub read : ReadsMore goes before new
  pub ended : new.unread ≡ []

-- ---- why nothing comes

-- all but the channel is the same
pub record SameButChannel {C : Type 0} (old new : Wire C) : Type 0 where
  pub client : new.client ≡ old.client
  pub unread : new.unread ≡ old.unread
  pub written : new.written ≡ old.written

-- a front of these bytes went out, once, and the last call is where the channel failed or took nothing; with those before it, so many went out
pub record FallsShort {C : Type 0} (goes : C → IoEvent → C → Type 0) (old : Wire C) (bytes : List ℕ) (total : ℕ) (channel : C) : Type 0 where
  pub out : ℕ
  pub within : out ≤ length bytes
  pub total_is : total ≡ saturating_count (old.written + out)
  pub short : WritesShort goes old.channel channel (take out bytes)

-- the client refuses what was read, and is the one that met it; nothing is read or written
pub record ClosesClient {C : Type 0} (old : Wire C) (fault : ClientFault) (new : Wire C) : Type 0 where
  pub refused : NextRefused old.client old.unread fault new.client
  pub latches : new.client.fault ≡ Some fault
  pub none_held : new.client.intake.held ≡ []
  pub channel : new.channel ≡ old.channel
  pub unread : new.unread ≡ old.unread
  pub written : new.written ≡ old.written

-- bytes are taken, but of what the client writes for them a front goes out
pub record TakesShort {C : Type 0} (goes : C → IoEvent → C → Type 0) (old : Wire C) (total : ℕ) (new : Wire C) : Type 0 where
  pub message : Option Message
  pub out : List ℕ
  pub takes : TakesNext old.client old.unread [] message new.client new.unread out
  pub short : FallsShort goes old out total new.channel
  pub written : new.written ≡ old.written

-- where all that was read is taken, one read fails
pub record ReadFails {C : Type 0} (goes : C → IoEvent → C → Type 0) (old new : Wire C) : Type 0 where
  pub none_left : old.unread ≡ []
  pub failed : goes old.channel ReadFailed new.channel
  pub same : SameButChannel old new

-- one read gave bytes, and memory for them is refused
pub record LosesBytes {C : Type 0} (goes : C → IoEvent → C → Type 0) (old new : Wire C) : Type 0 where
  pub none_left : old.unread ≡ []
  pub room : ℕ
  pub some_room : 0 < room
  pub bytes : List ℕ
  pub some_bytes : bytes ≢ []
  pub gave : goes old.channel (Gave room bytes) new.channel
  pub same : SameButChannel old new

-- a step by which bytes are taken or read fails, and this is all that was read and written in it
abbrev pub StepFails : {C : Type 0} → (C → IoEvent → C → Type 0) → Wire C → ConnectionFault → Wire C → Type 0
StepFails goes old (Client fault) new = ClosesClient old fault new
StepFails goes old (Write total) new = TakesShort goes old total new
StepFails goes old Read new = ReadFails goes old new
StepFails goes old OutOfMemory new = LosesBytes goes old new
StepFails goes old (Send fault) new = ⊥
StepFails goes old (Answer fault) new = ⊥
StepFails goes old Ended new = ⊥
StepFails goes old TooManyMessages new = ⊥
StepFails goes old TooManyReads new = ⊥

-- no message comes: a step fails; or as many were made as may be
pub data HearFails {C : Type 0} (goes : C → IoEvent → C → Type 0) (old : Wire C) : ConnectionFault → Wire C → Type 0 where
  step_fails : (fault : ConnectionFault) (before new : Wire C) → Hears goes old [] before → StepFails goes before fault new → HearFails goes old fault new
  too_many_steps : (new : Wire C) (heard : Hears goes old [] new) → step_count heard ≡ 18446744073709551615 → HearFails goes old TooManyReads new

-- ---- calls

-- the request is sent whole, and nothing is read
pub record DoesSend {C : Type 0} (goes : C → IoEvent → C → Type 0) (old : Wire C) (call : Call) (seq : ℕ) (new : Wire C) : Type 0 where
  pub seq_is : seq ≡ old.client.session.used + 1
  pub client : new.client ≡ client_after_sending call old.client
  pub sends : Sends goes old.channel new.channel (request_bytes old.client call)
  pub unread : new.unread ≡ old.unread
  pub written : new.written ≡ saturating_count (old.written + length (request_bytes old.client call))

-- the client has sent the request, and a front of it went out
pub record SendsShort {C : Type 0} (goes : C → IoEvent → C → Type 0) (old : Wire C) (call : Call) (total : ℕ) (new : Wire C) : Type 0 where
  pub client : new.client ≡ client_after_sending call old.client
  pub short : FallsShort goes old (request_bytes old.client call) total new.channel
  pub unread : new.unread ≡ old.unread
  pub written : new.written ≡ old.written

-- the client refuses the call, or the channel failed
abbrev pub SendFails : {C : Type 0} → (C → IoEvent → C → Type 0) → ConnectionState C → Call → ConnectionFault → ConnectionState C → Type 0
SendFails goes old call (Send fault) new = NotSent fault call old.wire.client
SendFails goes old call (Write total) new = SendsShort goes old.wire call total new.wire × (new.passed ≡ old.passed)
SendFails goes old call (Answer fault) new = ⊥
SendFails goes old call (Client fault) new = ⊥
SendFails goes old call Ended new = ⊥
SendFails goes old call Read new = ⊥
SendFails goes old call TooManyMessages new = ⊥
SendFails goes old call TooManyReads new = ⊥
SendFails goes old call OutOfMemory new = ⊥

-- what the client refuses leaves all as it was, and open; every other fault closes it
abbrev pub StaysOrCloses : {C : Type 0} → ConnectionState C → ConnectionFault → ConnectionState C → Type 0
StaysOrCloses old (Send fault) new = new ≡ old
StaysOrCloses old (Answer fault) new = new ≡ old
StaysOrCloses old (Client fault) new = new.fault ≡ Some (Client fault)
StaysOrCloses old Ended new = new.fault ≡ Some Ended
StaysOrCloses old Read new = new.fault ≡ Some Read
StaysOrCloses old (Write total) new = new.fault ≡ Some (Write total)
StaysOrCloses old TooManyMessages new = new.fault ≡ Some TooManyMessages
StaysOrCloses old TooManyReads new = new.fault ≡ Some TooManyReads
StaysOrCloses old OutOfMemory new = new.fault ≡ Some OutOfMemory

-- the response to a request of the adapter is sent whole, and nothing is read
pub record DoesAnswer {C : Type 0} (goes : C → IoEvent → C → Type 0) (old : Wire C) (request_seq : ℕ) (terminal : Terminal) (new : Wire C) : Type 0 where
  pub client : new.client ≡ client_after_answering request_seq old.client
  pub sends : Sends goes old.channel new.channel (answer_bytes old.client request_seq terminal)
  pub unread : new.unread ≡ old.unread
  pub written : new.written ≡ saturating_count (old.written + length (answer_bytes old.client request_seq terminal))

abbrev pub SendsAnswer : {C : Type 0} → (C → IoEvent → C → Type 0) → ConnectionState C → ℕ → Terminal → ConnectionState C → Type 0
SendsAnswer goes old request_seq terminal new = DoesAnswer goes old.wire request_seq terminal new.wire

-- the client has answered it, and a front of the response went out
pub record AnswersShort {C : Type 0} (goes : C → IoEvent → C → Type 0) (old : Wire C) (request_seq : ℕ) (terminal : Terminal) (total : ℕ) (new : Wire C) : Type 0 where
  pub client : new.client ≡ client_after_answering request_seq old.client
  pub short : FallsShort goes old (answer_bytes old.client request_seq terminal) total new.channel
  pub unread : new.unread ≡ old.unread
  pub written : new.written ≡ old.written

-- the client refuses the answer, or the channel failed
abbrev pub AnswerFails : {C : Type 0} → (C → IoEvent → C → Type 0) → ConnectionState C → ℕ → Terminal → ConnectionFault → ConnectionState C → Type 0
AnswerFails goes old request_seq terminal (Answer fault) new = NotAnswered fault request_seq old.wire.client
AnswerFails goes old request_seq terminal (Write total) new = AnswersShort goes old.wire request_seq terminal total new.wire × (new.passed ≡ old.passed)
AnswerFails goes old request_seq terminal (Send fault) new = ⊥
AnswerFails goes old request_seq terminal (Client fault) new = ⊥
AnswerFails goes old request_seq terminal Ended new = ⊥
AnswerFails goes old request_seq terminal Read new = ⊥
AnswerFails goes old request_seq terminal TooManyMessages new = ⊥
AnswerFails goes old request_seq terminal TooManyReads new = ⊥
AnswerFails goes old request_seq terminal OutOfMemory new = ⊥

-- the first of those that were passed over; else the next that comes
abbrev pub GivesNext : {C : Type 0} → (C → IoEvent → C → Type 0) → ConnectionState C → List Message → Option Message → ConnectionState C → Type 0
GivesNext goes old (m ∷ rest) message new = (message ≡ Some m) × (new.wire ≡ old.wire) × (new.passed ≡ rest)
GivesNext goes old [] (Some m) new = Hears goes old.wire (m ∷ []) new.wire × (new.passed ≡ [])
GivesNext goes old [] None new = HearsEnd goes old.wire new.wire × (new.passed ≡ [])

-- none was passed over, and none comes
pub record NextFails {C : Type 0} (goes : C → IoEvent → C → Type 0) (old : ConnectionState C) (fault : ConnectionFault) (new : ConnectionState C) : Type 0 where
  pub none_passed : old.passed ≡ []
  pub hears : HearFails goes old.wire fault new.wire
  pub passed : new.passed ≡ []

-- it is not the response to this request
abbrev pub IsOther : ℕ → Message → Type 0
IsOther seq m = response_parts seq m.kind ≡ None

-- messages come up to the response to this request, and those before it are kept
pub record AwaitsResponse {C : Type 0} (goes : C → IoEvent → C → Type 0) (old : ConnectionState C) (seq : ℕ) (response : Message) (new : ConnectionState C) : Type 0 where
  pub others : List Message
  pub hears : Hears goes old.wire (others ++ response ∷ []) new.wire
  pub are_others : All (IsOther seq) others
  pub is_response : is_some (response_parts seq response.kind) ≡ true
  pub passed : new.passed ≡ old.passed ++ others

-- why no more comes, where so many others came: one is not heard; the input ends; memory for another is refused; or as many came as are kept
pub data WaitFails {C : Type 0} (goes : C → IoEvent → C → Type 0) (seq count : ℕ) (old : Wire C) : ConnectionFault → Wire C → Type 0 where
  not_heard : (fault : ConnectionFault) (new : Wire C) → HearFails goes old fault new → WaitFails goes seq count old fault new
  input_ended : (new : Wire C) → HearsEnd goes old new → WaitFails goes seq count old Ended new
  loses_other : (m : Message) (new : Wire C) → Hears goes old (m ∷ []) new → IsOther seq m → WaitFails goes seq count old OutOfMemory new
  too_many_others : count ≡ 65536 → WaitFails goes seq count old TooManyMessages old

-- the response does not come, and those that came before are kept
pub record AwaitsInVain {C : Type 0} (goes : C → IoEvent → C → Type 0) (old : ConnectionState C) (seq : ℕ) (fault : ConnectionFault) (new : ConnectionState C) : Type 0 where
  pub others : List Message
  pub before : Wire C
  pub hears : Hears goes old.wire others before
  pub are_others : All (IsOther seq) others
  pub passed : new.passed ≡ old.passed ++ others
  pub fails : WaitFails goes seq (length others) before fault new.wire

-- the request is sent, and its response awaited
pub record Asks {C : Type 0} (goes : C → IoEvent → C → Type 0) (old : ConnectionState C) (call : Call) (response : Message) (new : ConnectionState C) : Type 0 where
  pub seq : ℕ
  pub sent : ConnectionState C
  pub sends : DoesSend goes old.wire call seq sent.wire
  pub kept : sent.passed ≡ old.passed
  pub awaits : AwaitsResponse goes sent seq response new

-- the request is not sent whole; or it is, and its response does not come
pub data AskFails {C : Type 0} (goes : C → IoEvent → C → Type 0) (old : ConnectionState C) (call : Call) (fault : ConnectionFault) (new : ConnectionState C) : Type 0 where
  not_sent : SendFails goes old call fault new → AskFails goes old call fault new
  no_response : (seq : ℕ) (sent : ConnectionState C) → DoesSend goes old.wire call seq sent.wire → sent.passed ≡ old.passed → AwaitsInVain goes sent seq fault new → AskFails goes old call fault new

-- ---- what a call that was refused says, where the connection was open

abbrev pub FailsToGive : {A C : Type 0} → (C → IoEvent → C → Type 0) → ConnectionState C → ConnectionState C → Result A ConnectionFault → Type 0
FailsToGive goes old new result = old.fault ≡ None → IfErr result (λ f. NextFails goes old f new)

abbrev pub FailsToSend : {A C : Type 0} → (C → IoEvent → C → Type 0) → ConnectionState C → Call → ConnectionState C → Result A ConnectionFault → Type 0
FailsToSend goes old call new result = old.fault ≡ None → IfErr result (λ f. SendFails goes old call f new)

abbrev pub FailsToAnswer : {A C : Type 0} → (C → IoEvent → C → Type 0) → ConnectionState C → ℕ → Terminal → ConnectionState C → Result A ConnectionFault → Type 0
FailsToAnswer goes old request_seq terminal new result = old.fault ≡ None → IfErr result (λ f. AnswerFails goes old request_seq terminal f new)

abbrev pub FailsToAsk : {A C : Type 0} → (C → IoEvent → C → Type 0) → ConnectionState C → Call → ConnectionState C → Result A ConnectionFault → Type 0
FailsToAsk goes old call new result = old.fault ≡ None → IfErr result (λ f. AskFails goes old call f new)

-- What serving comes to: a statement on the bytes that were read and written, and on the calls of the channel, why it stops.
-- Overview, "Base Protocol". That an end stops at the first refusal, and that all is answered before the next read, are this profile's choices.
use Rattle.std.specs.Prelude.{◌≡◌, ℕ, ◌+◌, ◌<◌, ◌≤◌, List, [], ◌∷◌, ◌++◌, length, IsTrue, true, false, Option, Result, Ok, Err}
use Rattle.std.specs.Io.KnownBytes.{Appends, Consumes, IsAtEnd}
use Rattle.dap_channel.specs.Channel.{IoEvent, Pipes, keeps_log, Gave, ReadFailed, Took, WriteFailed, Flushed, FlushFailed, Ran, bytes_read, bytes_written, reads, is_flushed, MayGoOn, HasEnded, HasReadFailed, HasWriteFailed}
use Rattle.dap_channel.specs.declared.channel.Pipe.{Pipe}
use Rattle.dap_channel.specs.Sent.{saturating_count}
use Rattle.dap_frame.specs.declared.frames.End.{End}
use Rattle.dap_frame.specs.declared.frames.End.TheVariants.{Clean, Truncated, Refused as Closed}
use Rattle.dap_frame.specs.declared.frames.FrameFault.{FrameFault}
use Rattle.dap_frame.specs.Intake.{StartsAt, LastStartsAt}
use Rattle.dap_frame.specs.Settings.{Settings, bounds_of}
use Rattle.dap_frame.specs.Stream.{Split}
use Rattle.dap_frame.specs.Verdict.{verdict, Part, Refused as Refuses, IsUnrefused}
use Rattle.dap_envelope.specs.Meaning.{Msg}
use Rattle.dap_envelope.specs.Refusals.{Bad}
use Rattle.dap_envelope.specs.declared.fault.BodyRefusal.{BodyRefusal}
use Rattle.dap_envelope.specs.declared.message.Message.{Message}
use Rattle.dap_debuggee.specs.Shown.{Shown}
use Rattle.dap_decision.specs.declared.phase.Phase.TheVariants.{Ended}
use Rattle.dap_plan.specs.declared.fault.AdapterFault.{AdapterFault}
use Rattle.dap_plan.specs.declared.fault.AdapterFault.TheVariants.{Frame, Body, SeqExhausted, OutOfMemory as NoMemory}
use Rattle.dap_plan.specs.Carried.{Goes, CarriedOut}
use Rattle.dap_plan.specs.Handling.{turns}
use Rattle.dap_plan.specs.Plan.{Made}
use Rattle.dap_outbox.specs.Draft.{bytes_of}
use Rattle.dap_plan.specs.Polling.{polls}
use Rattle.dap_plan.specs.SessionState.{SessionState}
use Rattle.dap_decision.specs.Table.{is_phase}
use Rattle.dap_plan.specs.Taking.{takes}
use Rattle.dap_adapter.specs.declared.served.Served.{Served}
use Rattle.dap_adapter.specs.declared.served.ServeFault.{ServeFault}
use Rattle.dap_adapter.specs.declared.served.ServeFault.TheVariants.{Read, Write, Adapter, TooManyReads, OutOfMemory}
use Rattle.dap_adapter.specs.Run.{Next, to_take, to_turn, to_poll, has_ended, fresh_state, Run, RanTo}

-- what serving begins with: the limits, how many reads there may be at most, the channel and the debuggee
pub record Start (C D : Type 0) : Type 0 where
  pub limits : Settings
  pub most : ℕ
  pub channel : C
  pub debuggee : D

abbrev pub start_of : {C D : Type 0} → Settings → ℕ → C → D → Start C D
start_of limits most channel debuggee = record { limits = limits; most = most; channel = channel; debuggee = debuggee }

-- ---- why a run stops

-- after the frames come bytes that are refused, just up to the refusal
pub record FrameRefused {D : Type 0} (shown : D → Shown) (follows : Goes D) (limits : Settings) (start : D) (used : List ℕ) (outs : List Message) (fault : FrameFault) : Type 0 where
  pub bodies : List (List ℕ)
  pub rest : List ℕ
  pub seat : SessionState D
  pub there : RanTo shown follows limits start used bodies rest outs to_take seat
  pub goes_on : has_ended seat.session ≡ false
  pub verdict_is : verdict (bounds_of limits) rest ≡ Refuses fault.cause (length rest)
  pub offset : StartsAt (bounds_of limits) fault.offset used bodies rest

-- after the frames comes one whose body is no message
pub record BodyRefused {D : Type 0} (shown : D → Shown) (follows : Goes D) (limits : Settings) (start : D) (used : List ℕ) (outs : List Message) (cause : BodyRefusal) (offset : ℕ) : Type 0 where
  pub bodies : List (List ℕ)
  pub body : List ℕ
  pub seat : SessionState D
  pub split : Split (bounds_of limits) used (bodies ++ body ∷ []) []
  pub run : Run shown follows to_take (fresh_state limits start) bodies outs to_take seat
  pub goes_on : has_ended seat.session ≡ false
  pub bad : Bad body cause
  pub starts : LastStartsAt (bounds_of limits) offset used (bodies ++ body ∷ []) body

-- after the frames comes one whose message closes the adapter
pub record StopsAtTake {D : Type 0} (shown : D → Shown) (follows : Goes D) (limits : Settings) (start : D) (used : List ℕ) (outs : List Message) (fault : AdapterFault) : Type 0 where
  pub bodies : List (List ℕ)
  pub body : List ℕ
  pub seat : SessionState D
  pub split : Split (bounds_of limits) used (bodies ++ body ∷ []) []
  pub run : Run shown follows to_take (fresh_state limits start) bodies outs to_take seat
  pub goes_on : has_ended seat.session ≡ false
  pub message : Message
  pub message_is : Msg body message
  pub refused : takes message seat.session ≡ Err fault

-- the next request is not handled
pub record StopsAtTurn {D : Type 0} (shown : D → Shown) (follows : Goes D) (limits : Settings) (start : D) (used : List ℕ) (outs : List Message) (fault : AdapterFault) : Type 0 where
  pub bodies : List (List ℕ)
  pub seat : SessionState D
  pub there : RanTo shown follows limits start used bodies [] outs to_turn seat
  pub refused : turns (shown seat.debuggee) seat.session ≡ Err fault

-- more happened than own numbers are left to tell it with
pub record StopsAtPoll {D : Type 0} (shown : D → Shown) (follows : Goes D) (limits : Settings) (start : D) (used : List ℕ) (outs : List Message) (fault : AdapterFault) : Type 0 where
  pub is : fault ≡ SeqExhausted
  pub bodies : List (List ℕ)
  pub seat : SessionState D
  pub made : ℕ
  pub there : RanTo shown follows limits start used bodies [] outs (to_poll made) seat
  pub told : Made
  pub asked : D
  pub carried : CarriedOut follows (polls seat.session) seat.debuggee told asked
  pub short : seat.session.limits.seq < seat.session.used + length told.drafts

pub data IsRefused {D : Type 0} (shown : D → Shown) (follows : Goes D) (limits : Settings) (start : D) (used : List ℕ) (outs : List Message) (fault : AdapterFault) : Type 0 where
  in_take : StopsAtTake shown follows limits start used outs fault → IsRefused shown follows limits start used outs fault
  in_turn : StopsAtTurn shown follows limits start used outs fault → IsRefused shown follows limits start used outs fault
  in_poll : StopsAtPoll shown follows limits start used outs fault → IsRefused shown follows limits start used outs fault

-- a run over the bytes used stops by just this fault of the adapter, with these messages made before it
abbrev pub StopsBy : {D : Type 0} → (D → Shown) → Goes D → Settings → D → List ℕ → List Message → AdapterFault → Type 0
StopsBy shown follows limits start used outs (Frame fault) = FrameRefused shown follows limits start used outs fault
StopsBy shown follows limits start used outs (Body cause offset) = BodyRefused shown follows limits start used outs cause offset
StopsBy shown follows limits start used outs NoMemory = ⊥
StopsBy shown follows limits start used outs fault = IsRefused shown follows limits start used outs fault

-- ---- the bytes read and the bytes written

-- a run over a front of the bytes read, which may have stopped after any step, makes these messages
pub record MakesSome {D : Type 0} (shown : D → Shown) (follows : Goes D) (limits : Settings) (start : D) (read : List ℕ) (outs : List Message) : Type 0 where
  pub used : List ℕ
  pub later : List ℕ
  pub read_is : read ≡ used ++ later
  pub bodies : List (List ℕ)
  pub rest : List ℕ
  pub next : Next
  pub seat : SessionState D
  pub there : RanTo shown follows limits start used bodies rest outs next seat

-- all that was read is handled, and what the run makes, all of it and nothing else, is written
pub record IsCaughtUp {D : Type 0} (shown : D → Shown) (follows : Goes D) (limits : Settings) (start : D) (read written : List ℕ) : Type 0 where
  pub bodies : List (List ℕ)
  pub rest : List ℕ
  pub outs : List Message
  pub seat : SessionState D
  pub there : RanTo shown follows limits start read bodies rest outs to_take seat
  pub unrefused : IsUnrefused (verdict (bounds_of limits) rest)
  pub goes_on : has_ended seat.session ≡ false
  pub written_is : written ≡ bytes_of outs

-- how the bytes used end, with this rest after their whole frames
abbrev pub IsEndOf : Settings → List ℕ → End → Type 0
IsEndOf limits rest Clean = rest ≡ []
IsEndOf limits rest Truncated = verdict (bounds_of limits) rest ≡ Part
IsEndOf limits rest Closed = ⊥

-- all that was read is handled, or what comes before the end of the session, with the message that ended it; all of it is written
pub record Completes {D : Type 0} (shown : D → Shown) (follows : Goes D) (limits : Settings) (start : D) (read written : List ℕ) (served : Served) : Type 0 where
  pub used : List ℕ
  pub later : List ℕ
  pub read_is : read ≡ used ++ later
  pub bodies : List (List ℕ)
  pub rest : List ℕ
  pub outs : List Message
  pub seat : SessionState D
  pub there : RanTo shown follows limits start used bodies rest outs to_take seat
  pub written_is : written ≡ bytes_of outs
  pub phase : served.phase ≡ seat.session.phase
  pub end : IsEndOf limits rest served.end
  pub all : has_ended seat.session ≡ false → later ≡ []
  pub whole : has_ended seat.session ≡ true → rest ≡ []

-- only the first bytes of what a run makes are written, and these are so many
pub record CutShort {D : Type 0} (shown : D → Shown) (follows : Goes D) (limits : Settings) (start : D) (read written : List ℕ) (n : ℕ) : Type 0 where
  pub outs : List Message
  pub makes : MakesSome shown follows limits start read outs
  pub front : List ℕ
  pub others : List ℕ
  pub outs_are : bytes_of outs ≡ front ++ others
  pub written_is : written ≡ front
  pub count : n ≡ saturating_count (length front)

-- a run stops by a fault of the adapter, and all that it made before is written
pub record StopsThere {D : Type 0} (shown : D → Shown) (follows : Goes D) (limits : Settings) (start : D) (read written : List ℕ) (fault : AdapterFault) : Type 0 where
  pub used : List ℕ
  pub later : List ℕ
  pub read_is : read ≡ used ++ later
  pub outs : List Message
  pub stops : StopsBy shown follows limits start used outs fault
  pub written_is : written ≡ bytes_of outs

-- memory was refused, and all that a run makes up to there is written
pub record StopsForMemory {D : Type 0} (shown : D → Shown) (follows : Goes D) (limits : Settings) (start : D) (read written : List ℕ) : Type 0 where
  pub outs : List Message
  pub makes : MakesSome shown follows limits start read outs
  pub written_is : written ≡ bytes_of outs

-- what a fault says of the bytes read and written
abbrev pub Stops : {D : Type 0} → (D → Shown) → Goes D → Settings → D → List ℕ → List ℕ → ServeFault → Type 0
Stops shown follows limits start read written Read = IsCaughtUp shown follows limits start read written
Stops shown follows limits start read written (Write n) = CutShort shown follows limits start read written n
Stops shown follows limits start read written (Adapter fault) = StopsThere shown follows limits start read written fault
Stops shown follows limits start read written TooManyReads = IsCaughtUp shown follows limits start read written
Stops shown follows limits start read written OutOfMemory = StopsForMemory shown follows limits start read written

-- what serving says of the bytes read and written
abbrev pub Comes : {D : Type 0} → (D → Shown) → Goes D → Settings → D → List ℕ → List ℕ → Result Served ServeFault → Type 0
Comes shown follows limits start read written (Ok served) = Completes shown follows limits start read written served
Comes shown follows limits start read written (Err fault) = Stops shown follows limits start read written fault

-- ---- the calls of the channel

-- all that was read is handled, and written and flushed; no call failed, and no read found the end of the input
pub record IsReadyToRead {D : Type 0} (shown : D → Shown) (follows : Goes D) (limits : Settings) (start : D) (log : List IoEvent) : Type 0 where
  pub caught_up : IsCaughtUp shown follows limits start (bytes_read log) (bytes_written log)
  pub flushed : IsTrue (is_flushed log)
  pub may_go_on : MayGoOn log

-- each read came only when what had come before it was handled, written and flushed
abbrev pub ReadsInTurn : {D : Type 0} → (D → Shown) → Goes D → Settings → D → List IoEvent → Type 0
ReadsInTurn shown follows limits start [] = Unit {0}
ReadsInTurn shown follows limits start (Gave room bytes ∷ log) = IsReadyToRead shown follows limits start log × ReadsInTurn shown follows limits start log
ReadsInTurn shown follows limits start (ReadFailed ∷ log) = IsReadyToRead shown follows limits start log × ReadsInTurn shown follows limits start log
ReadsInTurn shown follows limits start (Took bytes left ∷ log) = ReadsInTurn shown follows limits start log
ReadsInTurn shown follows limits start (WriteFailed ∷ log) = ReadsInTurn shown follows limits start log
ReadsInTurn shown follows limits start (Flushed ∷ log) = ReadsInTurn shown follows limits start log
ReadsInTurn shown follows limits start (FlushFailed ∷ log) = ReadsInTurn shown follows limits start log

-- each read gave at most 4096 bytes
abbrev pub AreSmall : List IoEvent → Type 0
AreSmall [] = Unit {0}
AreSmall (Gave room bytes ∷ log) = (length bytes ≤ 4096) × AreSmall log
AreSmall (ReadFailed ∷ log) = AreSmall log
AreSmall (Took bytes left ∷ log) = AreSmall log
AreSmall (WriteFailed ∷ log) = AreSmall log
AreSmall (Flushed ∷ log) = AreSmall log
AreSmall (FlushFailed ∷ log) = AreSmall log

-- what the calls show of a fault. At every fault but the writer's, all that was written was flushed; and where the channel is not to blame, no call failed, and no read found the end of the input
abbrev pub HasCause : ℕ → List IoEvent → ServeFault → Type 0
HasCause most log Read = HasReadFailed log × IsTrue (is_flushed log)
HasCause most log (Write n) = HasWriteFailed log
HasCause most log (Adapter fault) = IsTrue (is_flushed log) × MayGoOn log
HasCause most log TooManyReads = (reads log ≡ most) × IsTrue (is_flushed log) × MayGoOn log
HasCause most log OutOfMemory = IsTrue (is_flushed log) × MayGoOn log

-- the same of each outcome: unless the session ended, the last call found the end of the input; where it ended, no call failed
abbrev pub HasReason : ℕ → List IoEvent → Result Served ServeFault → Type 0
HasReason most log (Ok served) = (is_phase Ended served.phase ≡ false → HasEnded log) × IsTrue (is_flushed log) × (is_phase Ended served.phase ≡ true → MayGoOn log)
HasReason most log (Err fault) = HasCause most log fault

-- calls that led to this channel, and what they say of serving
pub record Serves {C D : Type 0} (goes : C → IoEvent → C → Type 0) (shown : D → Shown) (follows : Goes D) (b : Start C D) (after : C) (result : Result Served ServeFault) : Type 0 where
  pub log : List IoEvent
  pub ran : Ran goes b.channel log after
  pub comes : Comes shown follows b.limits b.debuggee (bytes_read log) (bytes_written log) result
  pub in_turn : ReadsInTurn shown follows b.limits b.debuggee log
  pub few : reads log ≤ b.most
  pub small : AreSmall log
  pub reason : HasReason b.most log result

-- of a channel that is the log of its calls, the same of that very log
abbrev pub ServingIsOfTheLog : {D : Type 0} → (D → Shown) → Goes D → Type 0
ServingIsOfTheLog {D} shown follows = (b : Start (List IoEvent) D) (calls : List IoEvent) (result : Result Served ServeFault) → b.channel ≡ [] → Serves keeps_log shown follows b calls result
    → Comes shown follows b.limits b.debuggee (bytes_read calls) (bytes_written calls) result × ReadsInTurn shown follows b.limits b.debuggee calls × (reads calls ≤ b.most) × AreSmall calls × HasReason b.most calls result

-- ---- the bytes that a reader and a writer know

-- unless the session ended, the reader is at its end
abbrev pub IsAtEndUnless : Option (List ℕ) → Result Served ServeFault → Type 0
IsAtEndUnless r (Ok served) = is_phase Ended served.phase ≡ false → IsAtEnd r
IsAtEndUnless r (Err fault) = Unit {0}

-- from what the reader has left and the writer holds, before and after, where those are known
pub record ServesBytes {D : Type 0} (shown : D → Shown) (follows : Goes D) (limits : Settings) (start : D) (r r' w w' : Option (List ℕ)) (result : Result Served ServeFault) : Type 0 where
  pub read : List ℕ
  pub written : List ℕ
  pub consumed : Consumes r r' read
  pub appended : Appends w w' written
  pub comes : Comes shown follows limits start read written result
  pub at_end : IsAtEndUnless r' result

-- ---- a reader and a writer as a channel

-- by what the reader has left, and the writer holds
abbrev pub PipeGoes : {R W : Type 0} → (R → Option (List ℕ)) → (W → Option (List ℕ)) → Pipe R W → IoEvent → Pipe R W → Type 0
PipeGoes left held before event after = Pipes (left before.reader) (held before.writer) event (left after.reader) (held after.writer)

abbrev pub ServesPipe : {R W D : Type 0} → (R → Option (List ℕ)) → (W → Option (List ℕ)) → (D → Shown) → Goes D → Settings → D → Pipe R W → Pipe R W → Result Served ServeFault → Type 0
ServesPipe left held shown follows limits debuggee before after result =
    ServesBytes shown follows limits debuggee (left before.reader) (left after.reader) (held before.writer) (held after.writer) result

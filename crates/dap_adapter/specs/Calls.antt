-- What the calls of an adapter do, as their contracts say it.
use Rattle.std.specs.Prelude.{◌≡◌, ◌≢◌, ◌⊎◌, false, IsOk, OnErr, Result, ℕ, ◌<◌, ◌≤◌, List, [], ◌∷◌, ◌++◌, length, take, drop, Option, Some, None, Ok, Err, ⊤, true, Vec, is_some}
use Rattle.std.specs.Borrow.{Bor}
use Rattle.dap_frame.specs.Feeds.{Gathers}
use Rattle.dap_frame.specs.Intake.{Intake}
use Rattle.dap_frame.specs.Settings.{Settings, bounds_of}
use Rattle.dap_history.specs.History.{Entry, In, outs_of}
use Rattle.dap_history.specs.Pieces.{Whole, FrameClosed, BodyRefused}
use Rattle.dap_envelope.specs.Meaning.{Msg}
use Rattle.dap_envelope.specs.ReadBack.{AllReadBack}
use Rattle.dap_envelope.specs.declared.message.Message.{Message}
use Rattle.dap_debuggee.specs.Shown.{Shown, SameButPlaces}
use Rattle.dap_tables.specs.Outstanding.{Kept}
use Rattle.dap_plan.specs.declared.fault.AdapterFault.{AdapterFault}
use Rattle.dap_plan.specs.declared.fault.AdapterFault.TheVariants.{Frame, Body, SeqExhausted, OutOfMemory}
use Rattle.dap_decision.specs.Table.{is_phase}
use Rattle.dap_decision.specs.declared.phase.Phase.TheVariants.{Asked}
use Rattle.dap_adapter.specs.declared.taken.Taken.{Taken}
use Rattle.dap_adapter.specs.declared.taken.Turned.{Turned}
use Rattle.dap_adapter.specs.declared.taken.Turned.TheVariants.{Idle, Done}
use Rattle.dap_plan.specs.Carried.{Goes}
use Rattle.dap_plan.specs.Handling.{some_plan, turns}
use Rattle.dap_plan.specs.Plan.{Plan, written_by, entries_of}
use Rattle.dap_outbox.specs.Draft.{bytes_of}
use Rattle.dap_plan.specs.Polling.{polls, has_debuggee}
use Rattle.dap_plan.specs.Emitting.{IsWhyNotEmitted, emit_faults, emits, first_emit_fault}
use Rattle.dap_plan.specs.declared.fault.EmitFault.{EmitFault}
use Rattle.dap_plan.specs.Asking.{IsWhyNotAsked, ask_faults, asks_named, first_ask_fault}
use Rattle.dap_plan.specs.declared.fault.AskFault.{AskFault}
use Rattle.dap_plan.specs.Responding.{IsLent, IsWhyNotResponded, first_respond_fault, respond_faults, responds}
use Rattle.dap_plan.specs.declared.fault.RespondFault.{RespondFault}
use Rattle.dap_message.specs.declared.outcome.Outcome.{Outcome}
use Rattle.dap_tables.specs.declared.entry.Entry.{Entry as Request}
use Rattle.serde_json.specs.Data.{Data}
use Rattle.dap_plan.specs.SessionState.{SessionState, SessionStep, IsUnasked, HasTooMany, AppendsSome}
use Rattle.dap_plan.specs.Session.{Session, oldest, to_handle}
use Rattle.dap_reader.specs.Reader.{Reader}
use Rattle.dap_adapter.specs.AdapterState.{AdapterState, state_of}
use Rattle.dap_adapter.specs.StandsFor.{StandsFor, GoesOn}
use Rattle.dap_plan.specs.Taking.{takes}

-- its session made a step, over these bytes of the client and what came with them; a client with the same limit on bodies reads each message that it wrote
pub record Step {D : Type 0} (follows : Goes D) (plan : Plan) (old new : AdapterState D) (used : List ℕ) (came : List Entry) (bytes : List ℕ) : Type 0 where
  pub session : SessionStep follows plan (state_of old) (state_of new)
  pub bytes_are : bytes ≡ bytes_of (written_by old.session session.made)
  pub goes_on : GoesOn old new used (came ++ entries_of old.session.used session.made)
  -- its history lists what it wrote
  pub went : (h : List Entry) → outs_of (h ++ (came ++ entries_of old.session.used session.made)) ≡ outs_of h ++ written_by old.session session.made
  pub reads_back : (s : List ℕ) (h : List Entry) → StandsFor old s h → AllReadBack old.session.limits.body (written_by old.session session.made)

-- ---- take

-- a message came whole, and this was made of it
pub record Delivers {D : Type 0} (follows : Goes D) (old : AdapterState D) (piece : List ℕ) (used : ℕ) (bytes : List ℕ) (m : Message) (new : AdapterState D) : Type 0 where
  pub whole : Whole old.intake piece used
  pub read : Msg whole.ready.held m
  pub plan : Plan
  pub is : takes m old.session ≡ Ok plan
  pub step : Step follows plan old new (take used piece) (In m ∷ []) bytes

-- the frame is still under way, and nothing else changed
pub record Waits {D : Type 0} (old : AdapterState D) (piece : List ℕ) (used : ℕ) (bytes : List ℕ) (new : AdapterState D) : Type 0 where
  pub gathers : Gathers old.intake new.intake piece used
  pub none_written : bytes ≡ []
  pub session : new.session ≡ old.session
  pub debuggee : new.debuggee ≡ old.debuggee
  pub goes_on : GoesOn old new piece []

abbrev pub Takes : {D : Type 0} → Goes D → AdapterState D → List ℕ → ℕ → List ℕ → Option Message → AdapterState D → Type 0
Takes follows old piece used bytes None new = Waits old piece used bytes new
Takes follows old piece used bytes (Some m) new = Delivers follows old piece used bytes m new

-- a message came whole that closes the adapter
pub record ClosedBy (old : Intake) (s : Session) (piece : List ℕ) (fault : AdapterFault) : Type 0 where
  pub n : ℕ
  pub whole : Whole old piece n
  pub message : Message
  pub read : Msg whole.ready.held message
  pub closes : takes message s ≡ Err fault

-- memory was refused once a body was whole: the debuggee is as it was, unless that body is a message by which it is asked something
pub record MemoryRefused {D : Type 0} (old : Intake) (p : SessionState D) (piece : List ℕ) (after : D) : Type 0 where
  pub n : ℕ
  pub whole : Whole old piece n
  pub debuggee : (after ≡ p.debuggee) ⊎ ((m : Message) × Msg whole.ready.held m × IsUnasked (some_plan (takes m p.session)) p.debuggee after)

-- why a call on a piece was refused, with the debuggee as it is then
abbrev pub TakeRefused : {D : Type 0} → Intake → SessionState D → List ℕ → AdapterFault → D → Type 0
TakeRefused old p piece (Frame fault) after = FrameClosed old piece fault
TakeRefused old p piece (Body cause offset) after = BodyRefused old piece cause offset
TakeRefused old p piece OutOfMemory after = MemoryRefused old p piece after
TakeRefused old p piece fault after = ClosedBy old p.session piece fault

-- ---- next

-- what `take` does, with the bytes used cut off and what is to be written appended
pub record TakesNext {D : Type 0} (follows : Goes D) (old : AdapterState D) (piece before : List ℕ) (message : Option Message) (new : AdapterState D) (left after : List ℕ) : Type 0 where
  pub used : ℕ
  pub takes_it : AppendsSome (λ bytes. Takes follows old piece used bytes message new) before after
  pub left_is : left ≡ drop used piece

-- the same of a piece that has bytes, and of a buffer
abbrev pub NextIs : {A D : Type 0} → Goes D → AdapterState D → Bor (List ℕ) → Vec ℕ A → AdapterState D → Bor (List ℕ) → Vec ℕ A → Option Message → Type 0
NextIs follows old piece before new left after message = 0 < length piece.now → TakesNext follows old piece.now before.items message new left.now after.items

-- of a piece with bytes fewer are left
abbrev pub Shortens : List ℕ → List ℕ → Type 0
Shortens before after = 0 < length before → length after < length before

-- this is so of an open adapter and a piece without bytes
abbrev pub WhereIdle : {D : Type 0} → AdapterState D → List ℕ → Type 0 → Type 0
WhereIdle e piece says = e.fault ≡ None → piece ≡ [] → says

-- ---- turn

pub record Handled {D : Type 0} (shown : D → Shown) (follows : Goes D) (old : AdapterState D) (bytes : List ℕ) (new : AdapterState D) : Type 0 where
  pub plan : Plan
  pub is : turns (shown old.debuggee) old.session ≡ Ok (Some plan)
  pub intake : new.intake ≡ old.intake
  pub step : Step follows plan old new [] [] bytes

abbrev pub TurnGives : {D : Type 0} → (D → Shown) → Goes D → AdapterState D → Turned → AdapterState D → Type 0
TurnGives shown follows old Idle new = (turns (shown old.debuggee) old.session ≡ Ok None) × (new ≡ old)
TurnGives shown follows old (Done bytes) new = Handled shown follows old bytes.items new

-- of the requests that wait to be handled
abbrev pub AreFewer : Turned → List Kept → List Kept → Type 0
AreFewer Idle old new = ⊤
AreFewer (Done bytes) old new = to_handle new < to_handle old

-- why a turn was refused: then the debuggee was not asked, but where memory was refused after it was
abbrev pub TurnRefused : {D : Type 0} → (D → Shown) → AdapterState D → AdapterFault → AdapterState D → Type 0
TurnRefused shown old OutOfMemory new = IsUnasked (turns (shown old.debuggee) old.session) old.debuggee new.debuggee
TurnRefused shown old fault new = (turns (shown old.debuggee) old.session ≡ Err fault) × (new.debuggee ≡ old.debuggee)

-- ---- poll

pub record Saw {D : Type 0} (follows : Goes D) (old : AdapterState D) (bytes : List ℕ) (new : AdapterState D) : Type 0 where
  pub intake : new.intake ≡ old.intake
  pub step : Step follows (polls old.session) old new [] [] bytes
  pub within : new.session.used ≤ old.session.limits.seq

-- why a poll was refused: the events of what happened were more than own numbers are left, or memory was refused, where there is a debuggee to ask
abbrev pub PollRefused : {D : Type 0} → Goes D → AdapterState D → AdapterFault → AdapterState D → Type 0
PollRefused follows old OutOfMemory new = has_debuggee old.session.phase ≡ true
PollRefused follows old SeqExhausted new = HasTooMany follows (polls old.session) (state_of old) (state_of new)
PollRefused follows old fault new = ⊥

-- ---- emit

-- an event was told by its name: no refusal holds, its message is written, and nothing else has changed but the own numbers
pub record Emits {D : Type 0} (follows : Goes D) (name : List ℕ) (body : Option Data) (old : AdapterState D) (bytes : List ℕ) (new : AdapterState D) : Type 0 where
  pub free : first_emit_fault emit_faults name body (is_some old.fault) old.session ≡ None
  pub intake : new.intake ≡ old.intake
  pub fault : new.fault ≡ old.fault
  pub debuggee : new.debuggee ≡ old.debuggee
  pub limits : new.session.limits ≡ old.session.limits
  pub step : Step follows (emits name body old.session) old new [] [] bytes
  pub within : new.session.used ≤ old.session.limits.seq

-- why it was not
abbrev pub NotEmitted : {D : Type 0} → List ℕ → Option Data → AdapterState D → EmitFault → Type 0
NotEmitted name body old fault = IsWhyNotEmitted fault name body (is_some old.fault) old.session

-- ---- respond

-- the lent request with this number was answered as it came out: no refusal holds, its response is written, and it is kept no more
pub record Responds {D : Type 0} (follows : Goes D) (seq : ℕ) (o : Outcome) (old : AdapterState D) (bytes : List ℕ) (new : AdapterState D) : Type 0 where
  pub free : first_respond_fault respond_faults seq o (is_some old.fault) old.session ≡ None
  pub entry : Request
  pub number : entry.seq ≡ seq
  pub lent : IsLent old.session entry
  pub intake : new.intake ≡ old.intake
  pub fault : new.fault ≡ old.fault
  pub debuggee : new.debuggee ≡ old.debuggee
  pub limits : new.session.limits ≡ old.session.limits
  pub step : Step follows (responds entry o old.session) old new [] [] bytes
  pub within : new.session.used ≤ old.session.limits.seq

-- why it was not
abbrev pub NotResponded : {D : Type 0} → ℕ → Outcome → AdapterState D → RespondFault → Type 0
NotResponded seq o old fault = IsWhyNotResponded fault seq o (is_some old.fault) old.session

-- ---- ask

-- the client was asked by a request of this name: no refusal holds, its message is written, and it is kept until the client answers it
pub record Asks {D : Type 0} (follows : Goes D) (command : List ℕ) (arguments : Option Data) (old : AdapterState D) (bytes : List ℕ) (new : AdapterState D) : Type 0 where
  pub free : first_ask_fault ask_faults command arguments (is_some old.fault) old.session ≡ None
  pub intake : new.intake ≡ old.intake
  pub fault : new.fault ≡ old.fault
  pub debuggee : new.debuggee ≡ old.debuggee
  pub limits : new.session.limits ≡ old.session.limits
  pub step : Step follows (asks_named command arguments old.session) old new [] [] bytes
  pub within : new.session.used ≤ old.session.limits.seq

-- why it was not
abbrev pub NotAsked : {D : Type 0} → List ℕ → Option Data → AdapterState D → AskFault → Type 0
NotAsked command arguments old fault = IsWhyNotAsked fault command arguments (is_some old.fault) old.session

-- ---- the same, of what a call gives

abbrev pub TakesUp : {D : Type 0} → Goes D → AdapterState D → List ℕ → AdapterState D → Taken → Type 0
TakesUp follows old piece new taken = Takes follows old piece taken.used taken.bytes.items taken.delivered new

abbrev pub GivesTurn : {D : Type 0} → (D → Shown) → Goes D → AdapterState D → AdapterState D → Turned → Type 0
GivesTurn shown follows old new turned = TurnGives shown follows old turned new

-- fewer requests wait to be handled, unless none did
abbrev pub LeavesFewer : {D : Type 0} → AdapterState D → AdapterState D → Turned → Type 0
LeavesFewer old new turned = AreFewer turned old.session.kept new.session.kept

-- ---- why an adapter that no fault has closed does not take a piece, make a turn or poll

abbrev pub PieceNotTakenUp : {D : Type 0} → AdapterState D → List ℕ → AdapterState D → AdapterFault → Type 0
PieceNotTakenUp old piece new fault = old.fault ≡ None → TakeRefused old.intake (state_of old) piece fault new.debuggee

abbrev pub TurnNotMade : {D : Type 0} → (D → Shown) → AdapterState D → AdapterState D → AdapterFault → Type 0
TurnNotMade shown old new fault = old.fault ≡ None → TurnRefused shown old fault new

abbrev pub PollNotMade : {D : Type 0} → Goes D → AdapterState D → AdapterState D → AdapterFault → Type 0
PollNotMade follows old new fault = old.fault ≡ None → PollRefused follows old fault new

-- ---- what a call leaves alone

-- the debuggee, unless memory is refused
abbrev pub KeepsDebuggee : {D : Type 0} → AdapterState D → AdapterState D → AdapterFault → Type 0
KeepsDebuggee old new fault = fault ≢ OutOfMemory → new.debuggee ≡ old.debuggee

-- the debuggee, unless an answer to a request for a terminal is waited for
abbrev pub KeepsDebuggeeUnlessAsked : {D T E : Type 0} → AdapterState D → AdapterState D → Result T E → Type 0
KeepsDebuggeeUnlessAsked old new result = is_phase Asked old.session.phase ≡ false → OnErr result (new.debuggee ≡ old.debuggee)

-- where no request waits, no memory is asked for
abbrev pub IdlesWithNone : {D E : Type 0} → AdapterState D → Result Turned E → Type 0
IdlesWithNone old result = old.fault ≡ None → oldest old.session.kept ≡ None → result ≡ Ok Idle

-- where there is no debuggee to ask, no memory is asked for
abbrev pub PollsWithNone : {D T E : Type 0} → AdapterState D → Result T E → Type 0
PollsWithNone old result = old.fault ≡ None → has_debuggee old.session.phase ≡ false → IsOk result

-- ---- exchange

-- What a host told the debuggee and what it has asked of the host are exchanged: it shows the same, but for where breakpoints are, and all else is the same.
pub record Exchanges {D : Type 0} (shown : D → Shown) (old new : AdapterState D) : Type 0 where
  pub shows_the_same : SameButPlaces (shown old.debuggee) (shown new.debuggee)
  pub all_else : new ≡ record old { debuggee = new.debuggee }

-- ---- what holds between calls

-- what holds of every adapter
pub record IsAdapter (limits : Settings) (reader : Reader) (fault : Option AdapterFault) : Type 0 where
  pub bounds : reader.intake.bounds ≡ bounds_of limits
  pub reads : fault ≡ None → reader.fault ≡ None
  -- after a fault nothing is held
  pub closed : (f : AdapterFault) → fault ≡ Some f → reader.intake.held ≡ []

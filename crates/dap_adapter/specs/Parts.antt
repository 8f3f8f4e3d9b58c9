-- What an adapter does over several of its calls, which are those of a run and in its order, and so what `answer` and `tell` come to.
-- Overview, "Base Protocol". The order of the calls is this profile's choice.
use Rattle.std.specs.Prelude.{◌≡◌, ◌≢◌, ℕ, List, [], ◌++◌, Bool, true, false, Option, None, Result, Ok, Err, IfSome, IsOk, OnOk, Vec}
use Rattle.dap_frame.specs.Intake.{StandsFor as StandsForStream}
use Rattle.dap_history.specs.History.{Entry, outs_of}
use Rattle.dap_envelope.specs.ReadBack.{AllReadBack}
use Rattle.dap_envelope.specs.declared.message.Message.{Message}
use Rattle.dap_debuggee.specs.Shown.{Shown}
use Rattle.dap_plan.specs.Carried.{Goes}
use Rattle.dap_outbox.specs.Draft.{bytes_of}
use Rattle.dap_plan.specs.Polling.{has_debuggee}
use Rattle.dap_plan.specs.Session.{Session}
use Rattle.dap_plan.specs.declared.fault.AdapterFault.{AdapterFault}
use Rattle.dap_plan.specs.declared.fault.AdapterFault.TheVariants.{OutOfMemory}
use Rattle.dap_adapter.specs.AdapterState.{AdapterState, state_of}
use Rattle.dap_adapter.specs.Calls.{Delivers, Handled, Saw, Exchanges, TakeRefused, TurnRefused, PollRefused, Asks, Emits, Responds}
use Rattle.dap_message.specs.declared.outcome.Outcome.{Outcome}
use Rattle.serde_json.specs.Data.{Data}
use Rattle.dap_plan.specs.Plan.{written_by}
use Rattle.dap_adapter.specs.Run.{Next, to_take, to_turn, to_poll, has_ended, Run}
use Rattle.dap_adapter.specs.StandsFor.{StandsFor}

-- ---- a part of a run

-- these bytes may be held after the last whole frame: none before all is handled that came, and none once the session has ended
abbrev pub MayBeHeld : Next → Session → List ℕ → Type 0
MayBeHeld to_take s rest = has_ended s ≡ true → rest ≡ []
MayBeHeld to_turn s rest = rest ≡ []
MayBeHeld (to_poll asks) s rest = rest ≡ []

-- what an adapter stands for at the end of a part, where these messages were made: these bytes in all, with these frames
pub record StandsThere {D : Type 0} (old : AdapterState D) (from : Next) (new : AdapterState D) (to : Next) (s : List ℕ) (h : List Entry) (xs : List (List ℕ)) (rest_before : List ℕ) (outs : List Message) : Type 0 where
  pub more : List Entry
  pub stands : StandsFor new s (h ++ more)
  pub rest : List ℕ
  pub stream : StandsForStream new.intake s xs rest
  pub held : MayBeHeld from old.session rest_before → MayBeHeld to new.session rest
  -- what went out is what was made, and a client with the same limit on bodies reads it
  pub went : outs_of (h ++ more) ≡ outs_of h ++ outs
  pub reads_back : AllReadBack old.session.limits.body outs

-- a part of a run, from one adapter to another, over these bytes of the client, which makes these messages
pub record RunsOn {D : Type 0} (shown : D → Shown) (follows : Goes D) (old : AdapterState D) (from : Next) (used : List ℕ) (outs : List Message) (new : AdapterState D) (to : Next) : Type 0 where
  -- of the frames that come whole
  pub bodies : List (List ℕ)
  pub run : Run shown follows from (state_of old) bodies outs to (state_of new)
  pub stands : (s : List ℕ) (h : List Entry) (xs : List (List ℕ)) (rest_before : List ℕ) → StandsFor old s h → StandsForStream old.intake s xs rest_before → StandsThere old from new to (s ++ used) h (xs ++ bodies) rest_before outs
  pub stays_open : old.fault ≡ None → new.fault ≡ None
  pub limits : new.session.limits ≡ old.session.limits

-- one part after the other is one
abbrev pub PartsJoin : {D : Type 0} → (D → Shown) → Goes D → Type 0
PartsJoin {D} shown follows =
    (a b c : AdapterState D) (from mid to : Next) (used more : List ℕ) (outs nows : List Message)
    → RunsOn shown follows a from used outs b mid → RunsOn shown follows b mid more nows c to → RunsOn shown follows a from (used ++ more) (outs ++ nows) c to

-- ---- `answer` and `tell`

-- all of a piece is used, or what comes before the end of the session, with the message that ended it; what the run makes, all of it and nothing else, is appended
pub record AnswersPiece {D : Type 0} (shown : D → Shown) (follows : Goes D) (old : AdapterState D) (piece before : List ℕ) (new : AdapterState D) (after : List ℕ) (ended : Bool) : Type 0 where
  pub used : List ℕ
  pub later : List ℕ
  pub piece_is : piece ≡ used ++ later
  pub outs : List Message
  pub runs_on : RunsOn shown follows old to_take used outs new to_take
  pub appended : after ≡ before ++ bytes_of outs
  pub ended_is : has_ended new.session ≡ ended
  pub all : ended ≡ false → later ≡ []

-- the debuggee is polled as after a message, and what it tells is appended
pub record PollsOn {D : Type 0} (shown : D → Shown) (follows : Goes D) (old : AdapterState D) (before : List ℕ) (new : AdapterState D) (after : List ℕ) : Type 0 where
  pub outs : List Message
  pub runs_on : RunsOn shown follows old (to_poll 0) [] outs new to_take
  pub none_come : runs_on.bodies ≡ []
  pub appended : after ≡ before ++ bytes_of outs

-- calls of a program with a loop of its own, `answer`, `tell`, `emit`, `respond`, `ask` and `exchange` in any order, over these bytes of the client, which append these messages
pub data InTurn {D : Type 0} (shown : D → Shown) (follows : Goes D) (old : AdapterState D) : List ℕ → List Message → AdapterState D → Type 0 where
  none_made : InTurn shown follows old [] [] old
  answered : (s used : List ℕ) (outs nows : List Message) (m n : AdapterState D) → InTurn shown follows old s outs m → RunsOn shown follows m to_take used nows n to_take → InTurn shown follows old (s ++ used) (outs ++ nows) n
  told : (s : List ℕ) (outs nows : List Message) (m n : AdapterState D) → InTurn shown follows old s outs m → RunsOn shown follows m (to_poll 0) [] nows n to_take → InTurn shown follows old s (outs ++ nows) n
  emitted : (s : List ℕ) (outs : List Message) (name : List ℕ) (body : Option Data) (bytes : List ℕ) (m n : AdapterState D) → InTurn shown follows old s outs m → (e : Emits follows name body m bytes n) → InTurn shown follows old s (outs ++ written_by m.session e.step.session.made) n
  responded : (s : List ℕ) (outs : List Message) (seq : ℕ) (o : Outcome) (bytes : List ℕ) (m n : AdapterState D) → InTurn shown follows old s outs m → (e : Responds follows seq o m bytes n) → InTurn shown follows old s (outs ++ written_by m.session e.step.session.made) n
  asked : (s : List ℕ) (outs : List Message) (command : List ℕ) (arguments : Option Data) (bytes : List ℕ) (m n : AdapterState D) → InTurn shown follows old s outs m → (e : Asks follows command arguments m bytes n) → InTurn shown follows old s (outs ++ written_by m.session e.step.session.made) n
  exchanged : (s : List ℕ) (outs : List Message) (m n : AdapterState D) → InTurn shown follows old s outs m → Exchanges shown m n → InTurn shown follows old s outs n

-- what an adapter stands for after them
pub record StandsInTurn {D : Type 0} (old new : AdapterState D) (s : List ℕ) (h : List Entry) (outs : List Message) : Type 0 where
  pub more : List Entry
  pub stands : StandsFor new s (h ++ more)
  pub went : outs_of (h ++ more) ≡ outs_of h ++ outs
  pub reads_back : AllReadBack old.session.limits.body outs

-- whatever such calls were made: they append each message once, and it reads back
abbrev pub CallsInTurnAddUp : {D : Type 0} → (D → Shown) → Goes D → Type 0
CallsInTurnAddUp {D} shown follows = (old new : AdapterState D) (s used : List ℕ) (h : List Entry) (outs : List Message) → InTurn shown follows old used outs new → StandsFor old s h → StandsInTurn old new (s ++ used) h outs

-- ---- why it stops

-- the next call is refused
abbrev pub CallRefused : {D : Type 0} → (D → Shown) → Goes D → AdapterState D → Next → List ℕ → AdapterFault → AdapterState D → Type 0
CallRefused shown follows old to_take piece fault new = TakeRefused old.intake (state_of old) piece fault new.debuggee
CallRefused shown follows old to_turn piece fault new = TurnRefused shown old fault new
CallRefused shown follows old (to_poll asks) piece fault new = PollRefused follows old fault new

pub record StopsAtCall {D : Type 0} (shown : D → Shown) (follows : Goes D) (old : AdapterState D) (next : Next) (piece : List ℕ) (fault : AdapterFault) (new : AdapterState D) : Type 0 where
  pub goes_on : next ≡ to_take → has_ended old.session ≡ false
  pub refused : CallRefused shown follows old next piece fault new
  pub tables : new.session ≡ old.session
  -- only where memory is refused may a piece have asked the debuggee something
  pub debuggee : next ≡ to_take → fault ≢ OutOfMemory → new.debuggee ≡ old.debuggee

-- the next call hands out these bytes
abbrev pub CallMade : {D : Type 0} → (D → Shown) → Goes D → AdapterState D → Next → List ℕ → List ℕ → AdapterState D → Type 0
CallMade shown follows old to_take piece bytes new = (used : ℕ) × (m : Message) × Delivers follows old piece used bytes m new
CallMade shown follows old to_turn piece bytes new = Handled shown follows old bytes new
CallMade shown follows old (to_poll asks) piece bytes new = Saw follows old bytes new

-- it stops after a part of the run, and what that made, all of it and nothing else, is appended
pub record StopsAfter {D : Type 0} (shown : D → Shown) (follows : Goes D) (old : AdapterState D) (from : Next) (piece before : List ℕ) (fault : AdapterFault) (new : AdapterState D) (after : List ℕ) : Type 0 where
  pub used : List ℕ
  pub later : List ℕ
  pub piece_is : piece ≡ used ++ later
  pub outs : List Message
  pub there : AdapterState D
  pub next : Next
  pub runs_on : RunsOn shown follows old from used outs there next
  pub appended : after ≡ before ++ bytes_of outs
  pub why : StopsAtCall shown follows there next later fault new

-- ---- the same, of an adapter and what is appended

abbrev pub AnswersAll : {D A : Type 0} → (D → Shown) → Goes D → AdapterState D → List ℕ → Vec ℕ A → AdapterState D → Vec ℕ A → Bool → Type 0
AnswersAll shown follows old piece before new after ended = AnswersPiece shown follows old piece before.items new after.items ended

-- where there is a debuggee
abbrev pub TellsIfThere : {D A T E : Type 0} → (D → Shown) → Goes D → AdapterState D → AdapterState D → Vec ℕ A → Vec ℕ A → Result T E → Type 0
TellsIfThere shown follows old new before after result = has_debuggee old.session.phase ≡ true → OnOk result (PollsOn shown follows old before.items new after.items)

-- where there is none, nothing happens
abbrev pub TellsNothing : {D A T E : Type 0} → AdapterState D → AdapterState D → Vec ℕ A → Vec ℕ A → Result T E → Type 0
TellsNothing old new before after result = old.fault ≡ None → has_debuggee old.session.phase ≡ false → IsOk result × (new ≡ old) × (after ≡ before)

-- nor where the session has ended
abbrev pub StaysEnded : {D A E : Type 0} → AdapterState D → AdapterState D → Vec ℕ A → Vec ℕ A → Result Bool E → Type 0
StaysEnded old new before after result = old.fault ≡ None → has_ended old.session ≡ true → (result ≡ Ok true) × (new ≡ old) × (after ≡ before)

-- nor where a fault has closed it, which is answered again
abbrev pub StaysShut : {D A T : Type 0} → AdapterState D → AdapterState D → Vec ℕ A → Vec ℕ A → Result T AdapterFault → Type 0
StaysShut old new before after result = IfSome old.fault (λ fault. (result ≡ Err fault) × (new ≡ old) × (after ≡ before))

-- why it stops, where none has
abbrev pub StopsIfOpen : {D A : Type 0} → (D → Shown) → Goes D → AdapterState D → Next → List ℕ → Vec ℕ A → AdapterState D → Vec ℕ A → AdapterFault → Type 0
StopsIfOpen shown follows old from piece before new after fault = old.fault ≡ None → StopsAfter shown follows old from piece before.items fault new after.items

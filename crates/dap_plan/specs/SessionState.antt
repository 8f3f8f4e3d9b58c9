-- A session with its debuggee, one step of it, and what the three calls are made of.
use Rattle.std.specs.Prelude.{◌≡◌, ℕ, ◌+◌, ◌≤◌, ◌<◌, ⊤, List, [], ◌∷◌, ◌++◌, length, IsTrue, Option, Some, None, Result, Ok, Err}
use Rattle.dap_frame.specs.Settings.{Settings}
use Rattle.dap_command.specs.declared.offer.Offer.{Offer}
use Rattle.dap_tables.specs.Outstanding.{Kept, KeptRequests, IsOrderlyRequests, without}
use Rattle.dap_tables.specs.Breakpoints.{BreakpointTable}
use Rattle.dap_tables.specs.Seq.{Numbers}
use Rattle.dap_tables.specs.declared.entry.Entry.{Entry}
use Rattle.dap_debuggee.specs.Shown.{Shown, to_end}
use Rattle.dap_decision.specs.declared.decision.Decision.{Decision}
use Rattle.dap_decision.specs.declared.decision.Decision.TheVariants.{Refuses, Serves}
use Rattle.dap_plan.specs.declared.fault.AdapterFault.{AdapterFault}
use Rattle.dap_plan.specs.declared.fault.AdapterFault.TheVariants.{SeqExhausted, OutOfMemory}
use Rattle.dap_plan.specs.Carried.{Goes, CarriedOut}
use Rattle.dap_outbox.specs.InRange.{AreDraftsInRange}
use Rattle.dap_plan.specs.Handling.{plan_for, some_plan, turns}
use Rattle.dap_plan.specs.Plan.{Made, Plan, at_once, asking, messages_due, plan_within_numbers, after_answering, written_by}
use Rattle.dap_outbox.specs.Draft.{failure, bytes_of}
use Rattle.dap_plan.specs.Session.{Session, offers_fit, cancelled_by, not_cancelled_by}
use Rattle.dap_envelope.specs.ReadBack.{AllReadBack}

-- a session with its debuggee
pub record SessionState (D : Type 0) : Type 0 where
  pub session : Session
  pub debuggee : D

-- One step: the debuggee was asked just what the plan asks, and the session is the one that was made of its reply. What is written by it is `written_by old.session made`
pub record SessionStep {D : Type 0} (follows : Goes D) (plan : Plan) (old new : SessionState D) : Type 0 where
  pub made : Made
  pub carried : CarriedOut follows plan old.debuggee made new.debuggee
  pub after : new.session ≡ made.after

-- what holds of every session: its tables have the limits' room, and its offers fit
pub record IsSession (limits : Settings) (offers : Offer) (table : KeptRequests) (breakpoints : BreakpointTable) (numbers : Numbers) (own : KeptRequests) : Type 0 where
  pub room : table.room ≡ limits.requests
  pub orderly : IsOrderlyRequests table
  pub set : breakpoints.room ≡ limits.breakpoints
  pub last : numbers.last ≡ limits.seq
  pub used : numbers.used ≤ numbers.last
  pub fits : IsTrue (offers_fit limits offers)
  -- a place is left for the request for a terminal
  pub own_room : own.room + 1 ≡ limits.requests

-- these bytes are the messages of a step; a client with the same limit on bodies reads each of them, where the requests that they answer, and the names that they ask by, are in range
pub record Tells (old : Session) (m : Made) (bytes : List ℕ) : Type 0 where
  pub bytes_are : bytes ≡ bytes_of (written_by old m)
  pub reads_back : AreDraftsInRange m.drafts → AllReadBack old.limits.body (written_by old m)

-- the session is what was made, and these bytes say so
pub record MadeBy (m : Made) (old new : Session) (bytes : List ℕ) : Type 0 where
  pub session : new ≡ m.after
  pub tells : Tells old m bytes

-- what was decided of a request, as a plan
abbrev pub plan_of_decision : Decision → Shown → Session → Entry → Plan
plan_of_decision (Refuses f) view s r = at_once (after_answering r (failure f) s)
plan_of_decision (Serves e asked) view s r = plan_for e view s r asked

-- a plan was carried out, and these bytes say so
pub record Carries {D : Type 0} (follows : Goes D) (plan : Plan) (old new : SessionState D) (bytes : List ℕ) : Type 0 where
  pub step : SessionStep follows plan old new
  pub tells : Tells old.session step.made bytes

-- memory was refused to a turn, or to a message that is taken, that comes to this: the debuggee was not asked where it is asked nothing, nor where it is ended, which is done last
abbrev pub IsUnasked : {D : Type 0} → Result (Option Plan) AdapterFault → D → D → Type 0
IsUnasked (Ok None) v w = ⊥
IsUnasked (Ok (Some (asking to_end makes))) v w = w ≡ v
IsUnasked (Ok (Some (asking act makes))) v w = ⊤
IsUnasked _ v w = w ≡ v

-- why a plan was not carried out: it takes more messages than own numbers are left, and nothing was asked, or memory was refused
abbrev pub IsRefusedFor : {D : Type 0} → AdapterFault → Plan → SessionState D → SessionState D → Type 0
IsRefusedFor SeqExhausted plan old new = (old.session.limits.seq < old.session.used + messages_due plan) × (new ≡ old)
IsRefusedFor OutOfMemory plan old new = IsUnasked (some_plan (plan_within_numbers old.session plan)) old.debuggee new.debuggee
IsRefusedFor fault plan old new = ⊥

-- no request waits to be handled
pub record IsIdle {D : Type 0} (view : Shown) (old new : SessionState D) : Type 0 where
  pub idle : turns view old.session ≡ Ok None
  pub same : new ≡ old

-- one was handled
pub record HasTurned {D : Type 0} (shown : D → Shown) (follows : Goes D) (old new : SessionState D) (bytes : List ℕ) : Type 0 where
  pub plan : Plan
  pub is : turns (shown old.debuggee) old.session ≡ Ok (Some plan)
  pub carries : Carries follows plan old new bytes

-- none was, for this reason
abbrev pub NotTurned : {D : Type 0} → (D → Shown) → AdapterFault → SessionState D → SessionState D → Type 0
NotTurned shown SeqExhausted old new = (turns (shown old.debuggee) old.session ≡ Err SeqExhausted) × (new ≡ old)
NotTurned shown OutOfMemory old new = IsUnasked (turns (shown old.debuggee) old.session) old.debuggee new.debuggee
NotTurned shown fault old new = ⊥

-- so many messages are more than own numbers are left; or there are enough, and memory was refused
abbrev pub LacksRoom : AdapterFault → Session → ℕ → Type 0
LacksRoom SeqExhausted s n = s.limits.seq < s.used + n
LacksRoom OutOfMemory s n = s.used + n ≤ s.limits.seq
LacksRoom fault s n = ⊥

-- what was made takes more messages than own numbers are left
pub record HasTooMany {D : Type 0} (follows : Goes D) (plan : Plan) (old new : SessionState D) : Type 0 where
  pub made : Made
  pub carried : CarriedOut follows plan old.debuggee made new.debuggee
  pub short : old.session.limits.seq < old.session.used + length made.drafts

-- why a poll was refused: of what happened then, or of memory
abbrev pub IsRefusedPoll : {D : Type 0} → Goes D → AdapterFault → Plan → SessionState D → SessionState D → Type 0
IsRefusedPoll follows SeqExhausted plan old new = HasTooMany follows plan old new
IsRefusedPoll follows OutOfMemory plan old new = ⊤
IsRefusedPoll follows fault plan old new = ⊥

-- ---- a buffer that is lent

-- bytes were appended, of which this holds
pub record AppendsSome (Holds : List ℕ → Type 0) (old new : List ℕ) : Type 0 where
  pub bytes : List ℕ
  pub items : new ≡ old ++ bytes
  pub holds : Holds bytes

-- ---- a message that is delivered

-- a cancel of that number answers no request
pub record NamesNone (id : ℕ) (kept : List Kept) : Type 0 where
  pub none : cancelled_by id kept ≡ []
  pub others : not_cancelled_by id kept ≡ kept

-- it answers the one that has it
pub record NamesOne (id : ℕ) (kept : List Kept) : Type 0 where
  pub one : Kept
  pub named : cancelled_by id kept ≡ one ∷ []
  pub others : not_cancelled_by id kept ≡ without id kept

-- it was taken: it comes to this plan, which was carried out, and these bytes say so
pub record HasTaken {D : Type 0} (follows : Goes D) (comes : Result Plan AdapterFault) (old new : SessionState D) (bytes : List ℕ) : Type 0 where
  pub plan : Plan
  pub is : comes ≡ Ok plan
  pub carries : Carries follows plan old new bytes

-- or it closes the adapter. Memory may be refused where no other name than want of numbers is its refusal
abbrev pub NotTaken : AdapterFault → Result Plan AdapterFault → Type 0
NotTaken OutOfMemory comes = (f : AdapterFault) → comes ≡ Err f → f ≡ SeqExhausted
NotTaken fault comes = comes ≡ Err fault

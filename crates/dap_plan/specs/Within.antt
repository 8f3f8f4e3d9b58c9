-- What stays true of a session, step by step.
use Rattle.std.specs.Prelude.{◌≡◌, ℕ, ◌+◌, ◌≤◌, List, length, Option, Some, Ok, true, false}
use Rattle.serde_json.specs.Data.{Data}
use Rattle.dap_frame.specs.Settings.{Settings}
use Rattle.dap_command.specs.declared.offer.Offer.{Offer}
use Rattle.dap_envelope.specs.declared.message.Message.{Message}
use Rattle.dap_tables.specs.Outstanding.{contains_seq, HasDistinctSeqs}
use Rattle.dap_debuggee.specs.Shown.{Shown}
use Rattle.dap_tables.specs.SourceMap.{count}
use Rattle.dap_tables.specs.Breakpoints.{max_id}
use Rattle.dap_plan.specs.Handling.{turns}
use Rattle.dap_plan.specs.Laws.{CanMake}
use Rattle.dap_plan.specs.Plan.{Made, Plan, messages_due}
use Rattle.dap_plan.specs.Polling.{polls}
use Rattle.dap_plan.specs.Responding.{IsLent, responds}
use Rattle.dap_message.specs.declared.outcome.Outcome.{Outcome}
use Rattle.dap_tables.specs.declared.entry.Entry.{Entry as Request}
use Rattle.dap_plan.specs.Asking.{asks_named, may_ask}
use Rattle.dap_plan.specs.Emitting.{emits}
use Rattle.dap_plan.specs.Session.{Session, IsAskedIn, OwnStandApart, opened_session}
use Rattle.dap_plan.specs.Taking.{takes}

-- a session keeps to its limits
pub record IsWithin (s : Session) : Type 0 where
  -- no two kept requests have the same number
  pub distinct : HasDistinctSeqs s.kept
  pub kept : length s.kept ≤ s.limits.requests
  -- whether a request for a terminal waits suits the phase
  pub asked : IsAskedIn s.phase s.asked
  -- the requests of whoever holds the adapter stand apart, and leave a place
  pub own : OwnStandApart s
  -- own sequence numbers
  pub used : s.used ≤ s.limits.seq
  -- as many as are live
  pub references : length s.references.live ≤ s.limits.references
  -- no reference was given a number past the greatest
  pub numbers : s.references.base + length s.references.live ≤ s.limits.reference
  -- as many as stand
  pub breakpoints : count s.breakpoints.sources ≤ s.limits.breakpoints
  -- no breakpoint was given an id past the greatest
  pub ids : s.breakpoints.next_id ≤ max_id + 1

pub record EachStepStaysWithin : Type 0 where
  pub opened : (limits : Settings) (offers : Offer) → 1 ≤ limits.requests → IsWithin (opened_session limits offers)
  pub take : (s : Session) (m : Message) (plan : Plan) (made : Made) → IsWithin s → takes m s ≡ Ok plan → CanMake plan made → IsWithin made.after
  pub turn : (view : Shown) (s : Session) (plan : Plan) (made : Made) → IsWithin s → turns view s ≡ Ok (Some plan) → CanMake plan made → IsWithin made.after
  -- where the events of what happened are not too many
  pub poll : (s : Session) (made : Made) → IsWithin s → CanMake (polls s) made → made.after.used ≤ s.limits.seq → IsWithin made.after
  -- where an own number is left
  pub emit : (name : List ℕ) (body : Option Data) (s : Session) (made : Made) → IsWithin s → CanMake (emits name body s) made → made.after.used ≤ s.limits.seq → IsWithin made.after
  pub respond : (r : Request) (o : Outcome) (s : Session) (made : Made) → IsWithin s → IsLent s r → CanMake (responds r o s) made → made.after.used ≤ s.limits.seq → IsWithin made.after
  -- where one more may be asked
  pub ask : (command : List ℕ) (arguments : Option Data) (s : Session) (made : Made) → IsWithin s → may_ask s ≡ true → CanMake (asks_named command arguments s) made → made.after.used ≤ s.limits.seq → IsWithin made.after
  -- the next own number is not asked already
  pub next_is_new : (s : Session) → IsWithin s → contains_seq (s.used + 1) s.own ≡ false
  -- the limits stay
  pub take_keeps_limits : (s : Session) (m : Message) (plan : Plan) (made : Made) → takes m s ≡ Ok plan → CanMake plan made → made.after.limits ≡ s.limits
  pub turn_keeps_limits : (view : Shown) (s : Session) (plan : Plan) (made : Made) → turns view s ≡ Ok (Some plan) → CanMake plan made → made.after.limits ≡ s.limits
  pub poll_keeps_limits : (s : Session) (made : Made) → CanMake (polls s) made → made.after.limits ≡ s.limits
  pub emit_keeps_limits : (name : List ℕ) (body : Option Data) (s : Session) (made : Made) → CanMake (emits name body s) made → made.after.limits ≡ s.limits
  pub respond_keeps_limits : (r : Request) (o : Outcome) (s : Session) (made : Made) → CanMake (responds r o s) made → made.after.limits ≡ s.limits
  pub ask_keeps_limits : (command : List ℕ) (arguments : Option Data) (s : Session) (made : Made) → CanMake (asks_named command arguments s) made → made.after.limits ≡ s.limits
  -- and so do the offers
  pub take_keeps_offers : (s : Session) (m : Message) (plan : Plan) (made : Made) → takes m s ≡ Ok plan → CanMake plan made → made.after.offers ≡ s.offers
  pub turn_keeps_offers : (view : Shown) (s : Session) (plan : Plan) (made : Made) → turns view s ≡ Ok (Some plan) → CanMake plan made → made.after.offers ≡ s.offers
  pub poll_keeps_offers : (s : Session) (made : Made) → CanMake (polls s) made → made.after.offers ≡ s.offers
  pub emit_keeps_offers : (name : List ℕ) (body : Option Data) (s : Session) (made : Made) → CanMake (emits name body s) made → made.after.offers ≡ s.offers
  pub respond_keeps_offers : (r : Request) (o : Outcome) (s : Session) (made : Made) → CanMake (responds r o s) made → made.after.offers ≡ s.offers
  pub ask_keeps_offers : (command : List ℕ) (arguments : Option Data) (s : Session) (made : Made) → CanMake (asks_named command arguments s) made → made.after.offers ≡ s.offers
  -- a turn takes as many messages as was said before the debuggee was asked
  pub due_is_exact : (view : Shown) (s : Session) (plan : Plan) (made : Made) → IsWithin s → turns view s ≡ Ok (Some plan) → CanMake plan made → length made.drafts ≡ messages_due plan
  -- and so does a message that is taken
  pub take_due_is_exact : (s : Session) (m : Message) (plan : Plan) (made : Made) → IsWithin s → takes m s ≡ Ok plan → CanMake plan made → length made.drafts ≡ messages_due plan

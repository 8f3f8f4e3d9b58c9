-- Each step of an adapter goes on as its history does, whatever its debuggee replies.
use Rattle.std.specs.Prelude.{◌≡◌, ℕ, List, [], ◌∷◌, ◌++◌, Option, Some, Ok}
use Rattle.serde_json.specs.Data.{Data}
use Rattle.dap_history.specs.History.{Entry, In, ins_of, outs_of}
use Rattle.dap_envelope.specs.declared.message.Message.{Message}
use Rattle.dap_debuggee.specs.Shown.{Shown, Reply}
use Rattle.dap_plan.specs.Carried.{Goes, CarriedOut}
use Rattle.dap_plan.specs.Handling.{turns}
use Rattle.dap_plan.specs.Plan.{Made, Plan, at_once, asking, entries_of}
use Rattle.dap_outbox.specs.Draft.{Draft, reply, emit, ask, ask_named, numbered_messages}
use Rattle.dap_plan.specs.Polling.{polls}
use Rattle.dap_plan.specs.Responding.{IsLent, responds}
use Rattle.dap_message.specs.declared.outcome.Outcome.{Outcome}
use Rattle.dap_tables.specs.declared.entry.Entry.{Entry as Request}
use Rattle.dap_plan.specs.Asking.{asks_named}
use Rattle.dap_plan.specs.Emitting.{emits}
use Rattle.dap_plan.specs.Session.{Session, IsOrderly}
use Rattle.dap_plan.specs.Follows.{Follows}
use Rattle.dap_plan.specs.Taking.{takes}

-- what a plan can come to
abbrev pub CanMake : Plan → Made → Type 0
CanMake (at_once m) made = made ≡ m
CanMake (asking act makes) made = (r : Reply) × (made ≡ makes r)

-- what is made where a plan is carried out is what it can come to
pub can_make : {D : Type 0} (follows : Goes D) (plan : Plan) (v w : D) (made : Made) → CarriedOut follows plan v made w → CanMake plan made
can_make follows (at_once m) v w made c = c.0
can_make follows (asking act makes) v w made c = (c.0, c.2)

-- ---- requests that whoever holds the adapter asks

-- no draft asks by a name that whoever holds the adapter gives
abbrev pub AskNoneByName : List Draft → Type 0
AskNoneByName [] = Unit {0}
AskNoneByName (reply r answer ∷ ds) = AskNoneByName ds
AskNoneByName (emit event ∷ ds) = AskNoneByName ds
AskNoneByName (ask ∷ ds) = AskNoneByName ds
AskNoneByName (ask_named command arguments ∷ ds) = ⊥

-- `ask` alone asks by a name of whoever holds the adapter
pub record OnlyAskAsksByName : Type 0 where
  pub take : (s : Session) (m : Message) (plan : Plan) (made : Made) → takes m s ≡ Ok plan → CanMake plan made → AskNoneByName made.drafts
  pub turn : (view : Shown) (s : Session) (plan : Plan) (made : Made) → turns view s ≡ Ok (Some plan) → CanMake plan made → AskNoneByName made.drafts
  pub poll : (s : Session) (made : Made) → CanMake (polls s) made → AskNoneByName made.drafts
  pub emit : (name : List ℕ) (body : Option Data) (s : Session) (made : Made) → CanMake (emits name body s) made → AskNoneByName made.drafts
  pub respond : (r : Request) (o : Outcome) (s : Session) (made : Made) → CanMake (responds r o s) made → AskNoneByName made.drafts

-- ---- the law

pub record EachStepGoesOn : Type 0 where
  -- what is made is written, all of it and nothing else, and nothing comes by it
  pub all_go : (used : ℕ) (m : Made) → outs_of (entries_of used m) ≡ numbered_messages used m.drafts
  pub none_come : (used : ℕ) (m : Made) → ins_of (entries_of used m) ≡ []
  pub take : (s : Session) (m : Message) (plan : Plan) (made : Made) (h : List Entry) → IsOrderly s → takes m s ≡ Ok plan → CanMake plan made
      → Follows s h → Follows made.after (h ++ In m ∷ entries_of s.used made)
  pub turn : (view : Shown) (s : Session) (plan : Plan) (made : Made) (h : List Entry) → IsOrderly s → turns view s ≡ Ok (Some plan) → CanMake plan made
      → Follows s h → Follows made.after (h ++ entries_of s.used made)
  pub poll : (s : Session) (made : Made) (h : List Entry) → CanMake (polls s) made
      → Follows s h → Follows made.after (h ++ entries_of s.used made)
  pub emit : (name : List ℕ) (body : Option Data) (s : Session) (made : Made) (h : List Entry) → CanMake (emits name body s) made
      → Follows s h → Follows made.after (h ++ entries_of s.used made)
  pub respond : (r : Request) (o : Outcome) (s : Session) (made : Made) (h : List Entry) → IsOrderly s → IsLent s r → CanMake (responds r o s) made
      → Follows s h → Follows made.after (h ++ entries_of s.used made)
  pub ask : (command : List ℕ) (arguments : Option Data) (s : Session) (made : Made) (h : List Entry) → CanMake (asks_named command arguments s) made
      → Follows s h → Follows made.after (h ++ entries_of s.used made)
  pub only_ask : OnlyAskAsksByName

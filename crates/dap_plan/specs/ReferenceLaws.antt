-- References that live at different times stay apart.
-- Overview, "Lifetime of Objects References".
use Rattle.std.specs.Prelude.{◌≡◌, ◌⊎◌, ℕ, ◌≤◌, List, [], ◌∷◌, true, false, Option, Some, None, Ok}
use Rattle.serde_json.specs.Data.{Data}
use Rattle.dap_plan.specs.Responding.{IsLent, responds}
use Rattle.dap_message.specs.declared.outcome.Outcome.{Outcome}
use Rattle.dap_tables.specs.declared.entry.Entry.{Entry as Request}
use Rattle.dap_plan.specs.Asking.{asks_named}
use Rattle.dap_plan.specs.Emitting.{emits}
use Rattle.dap_tables.specs.declared.target.Target.{Target}
use Rattle.dap_envelope.specs.declared.message.Message.{Message}
use Rattle.dap_debuggee.specs.Shown.{Shown}
use Rattle.dap_plan.specs.Handling.{turns}
use Rattle.dap_plan.specs.Laws.{CanMake}
use Rattle.dap_plan.specs.Plan.{Made, Plan}
use Rattle.dap_plan.specs.Polling.{polls}
use Rattle.dap_tables.specs.References.{LiveReferences, target_of}
use Rattle.dap_plan.specs.Session.{Session}
use Rattle.dap_plan.specs.Taking.{takes}

-- a step keeps the references before it and after it apart
pub record KeepsApart (s : Session) (made : Made) : Type 0 where
  -- what is dead stays dead
  pub base : s.references.base ≤ made.after.references.base
  -- where all die, each number that was live is dead
  pub dropped : made.drops ≡ true → (n : ℕ) (t : Target) → target_of s.references n ≡ Some t → n ≤ made.after.references.base
  -- where none dies, each number names what it named
  pub lasting : made.drops ≡ false → (n : ℕ) (t : Target) → target_of s.references n ≡ Some t → target_of made.after.references n ≡ Some t

-- ---- runs: one step after the other, whatever comes and whatever the debuggee shows and replies

pub record IsTaken (s : Session) (made : Made) : Type 0 where
  pub message : Message
  pub plan : Plan
  pub is : takes message s ≡ Ok plan
  pub can : CanMake plan made

pub record IsTurned (s : Session) (made : Made) : Type 0 where
  pub view : Shown
  pub plan : Plan
  pub is : turns view s ≡ Ok (Some plan)
  pub can : CanMake plan made

pub record IsEmitted (s : Session) (made : Made) : Type 0 where
  pub name : List ℕ
  pub body : Option Data
  pub can : CanMake (emits name body s) made

pub record IsResponded (s : Session) (made : Made) : Type 0 where
  pub entry : Request
  pub outcome : Outcome
  pub lent : IsLent s entry
  pub can : CanMake (responds entry outcome s) made

pub record IsAskedByName (s : Session) (made : Made) : Type 0 where
  pub command : List ℕ
  pub arguments : Option Data
  pub can : CanMake (asks_named command arguments s) made

-- a message was delivered, a request handled, the debuggee asked what happened, an event told by its name, a lent request answered, or a request asked by its name
abbrev pub IsStep : Session → Made → Type 0
IsStep s made = IsTaken s made ⊎ (IsTurned s made ⊎ (CanMake (polls s) made ⊎ (IsEmitted s made ⊎ (IsResponded s made ⊎ IsAskedByName s made))))

abbrev pub Runs : List Made → Session → Session → Type 0
Runs [] s new = new ≡ s
Runs (made ∷ later) s new = IsStep s made × Runs later made.after new

-- ---- the law

pub record ReferencesAreApart : Type 0 where
  -- a number at or below the base is dead: it names nothing
  pub dead : (refs : LiveReferences) (n : ℕ) → n ≤ refs.base → target_of refs n ≡ None
  pub take : (s : Session) (m : Message) (plan : Plan) (made : Made) → takes m s ≡ Ok plan → CanMake plan made → KeepsApart s made
  pub turn : (view : Shown) (s : Session) (plan : Plan) (made : Made) → turns view s ≡ Ok (Some plan) → CanMake plan made → KeepsApart s made
  pub poll : (s : Session) (made : Made) → CanMake (polls s) made → KeepsApart s made
  pub emit : (name : List ℕ) (body : Option Data) (s : Session) (made : Made) → CanMake (emits name body s) made → KeepsApart s made
  pub respond : (r : Request) (o : Outcome) (s : Session) (made : Made) → CanMake (responds r o s) made → KeepsApart s made
  pub ask : (command : List ℕ) (arguments : Option Data) (s : Session) (made : Made) → CanMake (asks_named command arguments s) made → KeepsApart s made
  -- a number that was live before all died names nothing ever after, whatever steps come
  pub stays_dead : (s new : Session) (made : Made) (later : List Made) (n : ℕ) (t : Target) → IsStep s made → made.drops ≡ true → target_of s.references n ≡ Some t → Runs later made.after new → target_of new.references n ≡ None

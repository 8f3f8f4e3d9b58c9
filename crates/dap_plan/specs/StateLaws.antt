-- The phase of an adapter is the state of its debuggee.
-- The phases and the states are this profile's choice.
use Rattle.std.specs.Prelude.{◌≡◌, ◌⊎◌, ℕ, List, IsTrue, Option, Some, Ok}
use Rattle.serde_json.specs.Data.{Data}
use Rattle.dap_envelope.specs.declared.message.Message.{Message}
use Rattle.dap_debuggee.specs.Laws.{state_after, may_answer}
use Rattle.dap_debuggee.specs.Shown.{Shown, Reply}
use Rattle.dap_debuggee.specs.declared.answers.State.{State}
use Rattle.dap_debuggee.specs.declared.answers.State.TheVariants as state
use Rattle.dap_decision.specs.declared.phase.Phase.{Phase}
use Rattle.dap_decision.specs.declared.phase.Phase.TheVariants.{Running, Stopped, Exited, Ended}
use Rattle.dap_plan.specs.Handling.{turns}
use Rattle.dap_plan.specs.Plan.{Plan, at_once, asking}
use Rattle.dap_plan.specs.Polling.{polls}
use Rattle.dap_plan.specs.Responding.{responds}
use Rattle.dap_message.specs.declared.outcome.Outcome.{Outcome}
use Rattle.dap_tables.specs.declared.entry.Entry.{Entry as Request}
use Rattle.dap_plan.specs.Asking.{asks_named}
use Rattle.dap_plan.specs.Emitting.{emits}
use Rattle.dap_plan.specs.Session.{Session}
use Rattle.dap_plan.specs.Taking.{takes}

-- of a debuggee that was in this first state, whichever it is, when the session began; in Ended it is so still, or it is gone
abbrev pub IsStateOf : State → Phase → State → Type 0
IsStateOf first Running s = s ≡ state.Running
IsStateOf first Stopped s = s ≡ state.Stopped
IsStateOf first Exited s = s ≡ state.Gone
IsStateOf first Ended s = (s ≡ first) ⊎ (s ≡ state.Gone)
IsStateOf first _ s = s ≡ first

-- so it is after the plan was carried out, whatever the debuggee may reply
abbrev pub KeepsState : State → Session → Plan → Type 0
KeepsState first s (at_once made) = (before : State) → IsStateOf first s.phase before → IsStateOf first made.after.phase before
KeepsState first s (asking act makes) = (before : State) (reply : Reply) → IsTrue (may_answer before act reply) → IsStateOf first s.phase before → IsStateOf first (makes reply).after.phase (state_after before act reply)

pub record EachStepKeepsState : Type 0 where
  pub take : (first : State) (s : Session) (m : Message) (plan : Plan) → takes m s ≡ Ok plan → KeepsState first s plan
  pub turn : (first : State) (view : Shown) (s : Session) (plan : Plan) → turns view s ≡ Ok (Some plan) → KeepsState first s plan
  pub poll : (first : State) (s : Session) → KeepsState first s (polls s)
  pub emit : (first : State) (name : List ℕ) (body : Option Data) (s : Session) → KeepsState first s (emits name body s)
  pub respond : (first : State) (r : Request) (o : Outcome) (s : Session) → KeepsState first s (responds r o s)
  pub ask : (first : State) (command : List ℕ) (arguments : Option Data) (s : Session) → KeepsState first s (asks_named command arguments s)

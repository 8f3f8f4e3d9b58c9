-- The references that an answer gives are live once it is given.
-- Overview, "Lifetime of Objects References".
use Rattle.std.specs.Prelude.{◌≡◌, ℕ, List, [], ◌∷◌, Bool, true, false, Option, Some, Ok}
use Rattle.dap_command.specs.declared.command.Command.{Command}
use Rattle.dap_command.specs.declared.command.Command.TheVariants as command
use Rattle.dap_envelope.specs.declared.message.Message.{Message}
use Rattle.dap_debuggee.specs.Shown.{Shown}
use Rattle.dap_tables.specs.Given.{references_given_in}
use Rattle.dap_query.specs.References.{AreLive}
use Rattle.dap_tables.specs.References.{LiveReferences}
use Rattle.dap_tables.specs.declared.reference_kind.ReferenceKind.{ReferenceKind}
use Rattle.dap_decision.specs.Failures.{command_of}
use Rattle.dap_plan.specs.Handling.{turns}
use Rattle.dap_plan.specs.Laws.{CanMake}
use Rattle.dap_plan.specs.Plan.{Made, Plan}
use Rattle.dap_outbox.specs.Draft.{success, failure, explained, came_out, Draft, reply, emit, ask, ask_named}
use Rattle.dap_plan.specs.Polling.{polls}
use Rattle.dap_plan.specs.Responding.{IsLent, responds}
use Rattle.dap_message.specs.declared.outcome.Outcome.{Outcome}
use Rattle.dap_message.specs.declared.outcome.Outcome.TheVariants.{Success, Failure}
use Rattle.dap_tables.specs.declared.entry.Entry.{Entry as Request}
use Rattle.dap_plan.specs.Asking.{asks_named}
use Rattle.dap_plan.specs.Emitting.{emits}
use Rattle.serde_json.specs.Data.{Data}
use Rattle.dap_plan.specs.Session.{Session}
use Rattle.dap_plan.specs.Taking.{takes}

-- as a client reads what is written: a success by the body and the request's command
abbrev pub given_by : Draft → List (ReferenceKind × ℕ)
given_by (reply r (success body names)) = references_given_in (command_of r) body
given_by (reply r (failure f)) = []
given_by (reply r (explained told)) = []
given_by (reply r (came_out (Success body))) = references_given_in (command_of r) body
given_by (reply r (came_out (Failure message body))) = []
given_by (emit event) = []
given_by ask = []
given_by (ask_named command arguments) = []

-- only the answers to stackTrace, scopes, variables, evaluate and setVariable are read for references; what answers setVariable gives none
abbrev pub is_set_variable : Option Command → Bool
is_set_variable (Some command.SetVariable) = true
is_set_variable _ = false

abbrev pub answers_set_variable : Draft → Bool
answers_set_variable (reply r answer) = is_set_variable (command_of r)
answers_set_variable (emit event) = false
answers_set_variable ask = false
answers_set_variable (ask_named command arguments) = false

-- what each gives is live
abbrev pub AllGiveLive : LiveReferences → List Draft → Type 0
AllGiveLive refs [] = Unit {0}
AllGiveLive refs (d ∷ ds) = AreLive refs (given_by d) × (answers_set_variable d ≡ true → given_by d ≡ []) × AllGiveLive refs ds

-- once a step is made, whatever the debuggee replies
pub record EachAnswerGivesLive : Type 0 where
  pub take : (s : Session) (m : Message) (plan : Plan) (made : Made) → takes m s ≡ Ok plan → CanMake plan made → AllGiveLive made.after.references made.drafts
  pub turn : (view : Shown) (s : Session) (plan : Plan) (made : Made) → turns view s ≡ Ok (Some plan) → CanMake plan made → AllGiveLive made.after.references made.drafts
  pub poll : (s : Session) (made : Made) → CanMake (polls s) made → AllGiveLive made.after.references made.drafts
  pub emit : (name : List ℕ) (body : Option Data) (s : Session) (made : Made) → CanMake (emits name body s) made → AllGiveLive made.after.references made.drafts
  pub respond : (r : Request) (o : Outcome) (s : Session) (made : Made) → IsLent s r → CanMake (responds r o s) made → AllGiveLive made.after.references made.drafts
  pub ask : (command : List ℕ) (arguments : Option Data) (s : Session) (made : Made) → CanMake (asks_named command arguments s) made → AllGiveLive made.after.references made.drafts

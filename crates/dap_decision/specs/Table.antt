-- Which command is served in which phase, and what it does there: the one table of commands and phases.
-- Which requests come when: Overview, "Initialization" to "Debug session end", and the requests of the Specification. The phases, and that another phase refuses a command, are this profile's choice.
use Rattle.std.specs.Prelude.{ℕ, ◌==◌, List, [], ◌∷◌, ◌++◌, Bool, false, Option, find, option_map}
use Rattle.std.specs.List.{list_any, list_all, flat_map}
use Rattle.dap_command.specs.declared.command.Command.{Command}
use Rattle.dap_command.specs.declared.command.Command.TheVariants as command
use Rattle.dap_debuggee.specs.declared.answers.How.TheVariants as how
use Rattle.dap_decision.specs.declared.phase.Phase.{Phase}
use Rattle.dap_decision.specs.declared.phase.Phase.TheVariants.{Fresh, Ready, Configured, Parked, Asked, Running, Stopped, Exited, Ended}
use Rattle.dap_decision.specs.declared.effect.Effect.{Effect}
use Rattle.dap_decision.specs.declared.effect.Effect.TheVariants.{Initialize, Park, Start, ConfigurationDone, StartParked, Disconnect, EndAndDisconnect, Terminate, Change, Resume, Pause, Query}

-- in each of these phases a command does this; `launch` and `configurationDone` do so unless a terminal is asked for first (`effect_of` in Handling)
pub record Row : Type 0 where
  pub phases : List Phase
  pub effect : Effect

abbrev pub row : List Phase → Effect → Row
row phases effect = record { phases = phases; effect = effect }

-- ---- sets of phases

abbrev pub ready_to_stopped : List Phase
ready_to_stopped = Ready ∷ Configured ∷ Parked ∷ Asked ∷ Running ∷ Stopped ∷ []

abbrev pub ready_to_exited : List Phase
ready_to_exited = ready_to_stopped ++ Exited ∷ []

-- those in which there is a debuggee to end
abbrev pub with_debuggee : List Phase
with_debuggee = Running ∷ Stopped ∷ []

abbrev pub without_debuggee : List Phase
without_debuggee = Fresh ∷ Ready ∷ Configured ∷ Parked ∷ Asked ∷ Exited ∷ []

-- ---- the table

-- The rows of a command; a command without rows is never served.
abbrev pub rows_of : Command → List Row
rows_of command.Initialize = row (Fresh ∷ []) Initialize ∷ []
rows_of command.Launch = row (Ready ∷ []) Park ∷ row (Configured ∷ []) Start ∷ []
rows_of command.Attach = row (Ready ∷ []) Park ∷ row (Configured ∷ []) Start ∷ []
rows_of command.ConfigurationDone = row (Ready ∷ []) ConfigurationDone ∷ row (Parked ∷ []) StartParked ∷ []
rows_of command.Disconnect = row with_debuggee EndAndDisconnect ∷ row without_debuggee Disconnect ∷ []
rows_of command.Terminate = row with_debuggee Terminate ∷ []
rows_of command.SetBreakpoints = row ready_to_stopped Change ∷ []
rows_of command.SetExceptionBreakpoints = row ready_to_stopped Query ∷ []
rows_of command.Threads = row ready_to_exited Query ∷ []
rows_of command.Source = row ready_to_exited Query ∷ []
rows_of command.LoadedSources = row ready_to_exited Query ∷ []
rows_of command.Continue = row (Stopped ∷ []) (Resume how.Continue) ∷ []
rows_of command.Next = row (Stopped ∷ []) (Resume how.Next) ∷ []
rows_of command.StepIn = row (Stopped ∷ []) (Resume how.StepIn) ∷ []
rows_of command.StepOut = row (Stopped ∷ []) (Resume how.StepOut) ∷ []
rows_of command.StepBack = row (Stopped ∷ []) (Resume how.StepBack) ∷ []
rows_of command.ReverseContinue = row (Stopped ∷ []) (Resume how.ReverseContinue) ∷ []
rows_of command.Pause = row (Running ∷ []) Pause ∷ row (Stopped ∷ []) Query ∷ []
rows_of command.StackTrace = row (Stopped ∷ []) Query ∷ []
rows_of command.Scopes = row (Stopped ∷ []) Query ∷ []
rows_of command.Variables = row (Stopped ∷ []) Query ∷ []
rows_of command.Evaluate = row (Stopped ∷ []) Query ∷ []
rows_of command.SetVariable = row (Stopped ∷ []) Change ∷ []
rows_of _ = []

-- ---- reading the table

abbrev pub rank : Phase → ℕ
rank Fresh = 0
rank Ready = 1
rank Configured = 2
rank Parked = 3
rank Asked = 4
rank Running = 5
rank Stopped = 6
rank Exited = 7
rank Ended = 8

abbrev pub is_phase : Phase → Phase → Bool
is_phase p q = rank p == rank q

abbrev pub is_among : Phase → List Phase → Bool
is_among phase phases = list_any (is_phase phase) phases

-- what the command does in the phase, if it is served there
abbrev pub effect_in : Command → Phase → Option Effect
effect_in c phase = option_map (λ r. r.effect) (find (λ r. is_among phase r.phases) (rows_of c))

abbrev pub is_served : Command → Phase → Bool
is_served c phase = list_any (λ r. is_among phase r.phases) (rows_of c)

abbrev pub phases_of : Command → List Phase
phases_of c = flat_map (λ r. r.phases) (rows_of c)

abbrev pub is_never_served : Command → Bool
is_never_served c = list_all (λ p. false) (phases_of c)

-- in Stopped alone
abbrev pub is_of_stops : Command → Bool
is_of_stops c = list_all (is_phase Stopped) (phases_of c)

-- What changes the phase: the one table of changes by their causes.
-- Specification, the events "initialized", "stopped", "continued", "exited", "terminated" and "capabilities", and the responses of the requests named; Overview, "Lifetime of Objects References". The phases are this profile's choice.
use Rattle.std.specs.Prelude.{ℕ, List, [], ◌∷◌, codes, bytes_eq, Bool, true, false, Option, find, option_map}
use Rattle.dap_command.specs.declared.command.Command.{Command}
use Rattle.dap_command.specs.declared.command.Command.TheVariants as command
use Rattle.dap_client.specs.declared.change.Change.{Change}
use Rattle.dap_client.specs.declared.phase.Phase.{Phase}
use Rattle.dap_client.specs.declared.phase.Phase.TheVariants.{Fresh, Initializing, Configuring, Running, Stopped, Resuming, Exited, Ended}
use Rattle.dap_client.specs.declared.signal.Signal.{Signal}
use Rattle.dap_client.specs.declared.signal.Signal.TheVariants as signal
use Rattle.dap_client.specs.Phases.{is_among, with_debuggee, configuring_to_exited, phases_in_a_stop}

-- ---- events that count

abbrev pub signal_name : Signal → List ℕ
signal_name signal.Initialized = codes "initialized"
signal_name signal.Stopped = codes "stopped"
signal_name signal.Continued = codes "continued"
signal_name signal.Exited = codes "exited"
signal_name signal.Terminated = codes "terminated"
signal_name signal.Capabilities = codes "capabilities"

abbrev pub all_signals : List Signal
all_signals = signal.Initialized ∷ signal.Stopped ∷ signal.Continued ∷ signal.Exited ∷ signal.Terminated ∷ signal.Capabilities ∷ []

-- the one with the name, if an event of that name counts
abbrev pub signal_named : List ℕ → Option Signal
signal_named name = find (λ s. bytes_eq name (signal_name s)) all_signals

-- ---- causes

-- a request was sent; the request that made the phase Resuming succeeded or failed; another one did; an event came
pub data Cause : Type 0 where
  sent : Command → Cause
  resumed : Bool → Cause
  answered : Command → Bool → Cause
  signalled : Signal → Cause

-- in each of these phases it changes the phase so
pub record ChangeRow : Type 0 where
  pub from : List Phase
  pub change : Change

abbrev pub leads : List Phase → Phase → ChangeRow
leads from to = record { from = from; change = record { to = to; clears = false } }

-- and all references die
abbrev pub leads_and_clears : List Phase → Phase → ChangeRow
leads_and_clears from to = record { from = from; change = record { to = to; clears = true } }

-- from Stopped, until it is answered
abbrev pub resumes : List ChangeRow
resumes = leads (Stopped ∷ []) Resuming ∷ []

abbrev pub ends_debuggee : List ChangeRow
ends_debuggee = leads_and_clears with_debuggee Exited ∷ []

-- ---- the table

abbrev pub changes_sent : Command → List ChangeRow
changes_sent command.Initialize = leads (Fresh ∷ []) Initializing ∷ []
changes_sent command.Continue = resumes
changes_sent command.Next = resumes
changes_sent command.StepIn = resumes
changes_sent command.StepOut = resumes
changes_sent command.StepBack = resumes
changes_sent command.ReverseContinue = resumes
changes_sent command.Terminate = resumes
changes_sent command.Restart = resumes
changes_sent command.Disconnect = leads_and_clears configuring_to_exited Ended ∷ []
changes_sent _ = []

abbrev pub changes_answered : Command → Bool → List ChangeRow
changes_answered command.Initialize true = leads (Initializing ∷ []) Configuring ∷ []
changes_answered command.Initialize false = leads (Initializing ∷ []) Fresh ∷ []
changes_answered command.Launch true = leads (Configuring ∷ []) Running ∷ []
changes_answered command.Attach true = leads (Configuring ∷ []) Running ∷ []
changes_answered _ _ = []

abbrev pub changes_signalled : Signal → List ChangeRow
changes_signalled signal.Stopped = leads (Configuring ∷ Running ∷ []) Stopped ∷ leads_and_clears (Resuming ∷ []) Stopped ∷ []
changes_signalled signal.Continued = leads_and_clears phases_in_a_stop Running ∷ []
changes_signalled signal.Exited = ends_debuggee
changes_signalled signal.Terminated = ends_debuggee
changes_signalled signal.Initialized = []
changes_signalled signal.Capabilities = []

abbrev pub changes_of : Cause → List ChangeRow
changes_of (sent c) = changes_sent c
changes_of (resumed true) = leads_and_clears (Resuming ∷ []) Running ∷ []
changes_of (resumed false) = leads (Resuming ∷ []) Stopped ∷ []
changes_of (answered c ok) = changes_answered c ok
changes_of (signalled s) = changes_signalled s

-- what the cause changes in the phase, if anything
abbrev pub change_in : Cause → Phase → Option Change
change_in cause phase = option_map (λ r. r.change) (find (λ r. is_among phase r.from) (changes_of cause))

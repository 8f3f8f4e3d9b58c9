-- The commands of this profile, a row for each: its name, and the flag of the capabilities without which it is refused.
-- Specification, "Requests" and "Capabilities". Which commands there are, and that a flag gates its command, is this
-- profile's choice.
use Rattle.std.specs.Prelude.{List, ℕ, [], ◌∷◌, codes, bytes_eq, find, Option, Some, None}
use Rattle.dap_command.specs.declared.command.Command.{Command}
use Rattle.dap_command.specs.declared.command.Command.TheVariants.{Initialize, Launch, Attach, ConfigurationDone, Disconnect, Threads, Terminate, Cancel, SetBreakpoints, SetFunctionBreakpoints, SetExceptionBreakpoints, Continue, Next, StepIn, StepOut, Pause, StepBack, ReverseContinue, StackTrace, Scopes, Variables, Evaluate, Source, LoadedSources, SetVariable, Restart, Modules, ExceptionInfo, BreakpointLocations, Completions}
use Rattle.dap_command.specs.declared.command.Gate.{Gate}
use Rattle.dap_command.specs.declared.command.Gate.TheVariants as gate

pub record Row : Type 0 where
  pub name : List ℕ
  pub gate : Option Gate

abbrev pub ungated_row : List ℕ → Row
ungated_row name = record { name = name; gate = None }

abbrev pub gated_row : List ℕ → Gate → Row
gated_row name gate = record { name = name; gate = Some gate }

abbrev pub row_of : Command → Row
row_of Initialize = ungated_row (codes "initialize")
row_of Launch = ungated_row (codes "launch")
row_of Attach = ungated_row (codes "attach")
row_of ConfigurationDone = gated_row (codes "configurationDone") gate.ConfigurationDone
row_of Disconnect = ungated_row (codes "disconnect")
row_of Threads = ungated_row (codes "threads")
row_of Terminate = gated_row (codes "terminate") gate.Terminate
row_of Cancel = gated_row (codes "cancel") gate.Cancel
row_of SetBreakpoints = ungated_row (codes "setBreakpoints")
row_of SetFunctionBreakpoints = gated_row (codes "setFunctionBreakpoints") gate.FunctionBreakpoints
row_of SetExceptionBreakpoints = ungated_row (codes "setExceptionBreakpoints")
row_of Continue = ungated_row (codes "continue")
row_of Next = ungated_row (codes "next")
row_of StepIn = ungated_row (codes "stepIn")
row_of StepOut = ungated_row (codes "stepOut")
row_of Pause = ungated_row (codes "pause")
row_of StepBack = gated_row (codes "stepBack") gate.StepBack
row_of ReverseContinue = gated_row (codes "reverseContinue") gate.StepBack
row_of StackTrace = ungated_row (codes "stackTrace")
row_of Scopes = ungated_row (codes "scopes")
row_of Variables = ungated_row (codes "variables")
row_of Evaluate = ungated_row (codes "evaluate")
row_of Source = ungated_row (codes "source")
row_of LoadedSources = gated_row (codes "loadedSources") gate.LoadedSources
row_of SetVariable = gated_row (codes "setVariable") gate.SetVariable
row_of Restart = gated_row (codes "restart") gate.Restart
row_of Modules = gated_row (codes "modules") gate.Modules
row_of ExceptionInfo = gated_row (codes "exceptionInfo") gate.ExceptionInfo
row_of BreakpointLocations = gated_row (codes "breakpointLocations") gate.BreakpointLocations
row_of Completions = gated_row (codes "completions") gate.Completions

abbrev pub name_of : Command → List ℕ
name_of command = (row_of command).name

abbrev pub gate_of : Command → Option Gate
gate_of command = (row_of command).gate

abbrev pub all_commands : List Command
all_commands = Initialize ∷ Launch ∷ Attach ∷ ConfigurationDone ∷ Disconnect ∷ Threads ∷ Terminate ∷ Cancel ∷ SetBreakpoints ∷ SetFunctionBreakpoints ∷ SetExceptionBreakpoints ∷ Continue ∷ Next ∷ StepIn ∷ StepOut ∷ Pause ∷ StepBack ∷ ReverseContinue ∷ StackTrace ∷ Scopes ∷ Variables ∷ Evaluate ∷ Source ∷ LoadedSources ∷ SetVariable ∷ Restart ∷ Modules ∷ ExceptionInfo ∷ BreakpointLocations ∷ Completions ∷ []

-- the one with the name
abbrev pub command_named : List ℕ → Option Command
command_named name = find (λ command. bytes_eq name (name_of command)) all_commands

-- the key of the flag
abbrev pub flag_of : Gate → List ℕ
flag_of gate.BreakpointLocations = codes "supportsBreakpointLocationsRequest"
flag_of gate.Cancel = codes "supportsCancelRequest"
flag_of gate.Completions = codes "supportsCompletionsRequest"
flag_of gate.ConfigurationDone = codes "supportsConfigurationDoneRequest"
flag_of gate.ExceptionInfo = codes "supportsExceptionInfoRequest"
flag_of gate.FunctionBreakpoints = codes "supportsFunctionBreakpoints"
flag_of gate.LoadedSources = codes "supportsLoadedSourcesRequest"
flag_of gate.Modules = codes "supportsModulesRequest"
flag_of gate.Restart = codes "supportsRestartRequest"
flag_of gate.SetVariable = codes "supportsSetVariable"
flag_of gate.StepBack = codes "supportsStepBack"
flag_of gate.Terminate = codes "supportsTerminateRequest"

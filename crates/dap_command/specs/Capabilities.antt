-- What an adapter offers: the flags that gate a command.
-- Specification, "Capabilities", and "CapabilitiesEvent" for updates. This profile's choice: that what is not
-- `true` counts as `false`, `null` too.
use Rattle.std.specs.Prelude.{Bool, true, false, Option, Some, None, option_and_then, unwrap_or}
use Rattle.serde_json.specs.Data.{Data, boolean, object, Members, no_members, put}
use Rattle.serde_json.specs.Find.{get, as_bool}
use Rattle.dap_json.specs.Field.{bool_at}
use Rattle.dap_command.specs.Command.{flag_of, gate_of}
use Rattle.dap_command.specs.declared.capabilities.Capabilities.{Capabilities}
use Rattle.dap_command.specs.declared.command.Command.{Command}
use Rattle.dap_command.specs.declared.command.Gate.{Gate}
use Rattle.dap_command.specs.declared.command.Gate.TheVariants.{BreakpointLocations, Cancel, Completions, ConfigurationDone, ExceptionInfo, FunctionBreakpoints, LoadedSources, Modules, Restart, SetVariable, StepBack, Terminate}

-- a flag counts where its key is `true`
abbrev pub is_flag : Gate → Option Data → Bool
is_flag gate body = unwrap_or (option_and_then (bool_at (flag_of gate)) body) false

abbrev pub flag_after : Option Data → Bool → Bool
flag_after None before = before
flag_after (Some d) before = unwrap_or (as_bool d) false

-- what a flag is after an update: what the object names it, or what it was
abbrev pub updated_flag : Gate → Data → Bool → Bool
updated_flag gate d before = flag_after (get (flag_of gate) d) before

abbrev pub has : Capabilities → Gate → Bool
has c BreakpointLocations = c.breakpoint_locations
has c Cancel = c.cancel
has c Completions = c.completions
has c ConfigurationDone = c.configuration_done
has c ExceptionInfo = c.exception_info
has c FunctionBreakpoints = c.function_breakpoints
has c LoadedSources = c.loaded_sources
has c Modules = c.modules
has c Restart = c.restart
has c SetVariable = c.set_variable
has c StepBack = c.step_back
has c Terminate = c.terminate

-- those with the flags that pass
abbrev pub capabilities_of : (Gate → Bool) → Capabilities
capabilities_of is_on = record {
  breakpoint_locations = is_on BreakpointLocations;
  cancel = is_on Cancel;
  completions = is_on Completions;
  configuration_done = is_on ConfigurationDone;
  exception_info = is_on ExceptionInfo;
  function_breakpoints = is_on FunctionBreakpoints;
  loaded_sources = is_on LoadedSources;
  modules = is_on Modules;
  restart = is_on Restart;
  set_variable = is_on SetVariable;
  step_back = is_on StepBack;
  terminate = is_on Terminate;
}

-- the flags of a body, or none without one
abbrev pub offered_by : Option Data → Capabilities
offered_by body = capabilities_of (λ gate. is_flag gate body)

-- the flags that the object names replace the old ones
abbrev pub updated_by : Data → Capabilities → Capabilities
updated_by d c = capabilities_of (λ gate. updated_flag gate d (has c gate))

abbrev pub passes : Capabilities → Option Gate → Bool
passes c None = true
passes c (Some gate) = has c gate

abbrev pub is_allowed : Capabilities → Command → Bool
is_allowed c command = passes c (gate_of command)

abbrev pub with_flag : Gate → Bool → Members → Members
with_flag gate true ms = put (flag_of gate) (boolean true) ms
with_flag gate false ms = ms

-- an object of the flags that are set
abbrev pub flags : Capabilities → Members
flags c = with_flag Terminate c.terminate (with_flag StepBack c.step_back (with_flag SetVariable c.set_variable (with_flag Restart c.restart (with_flag Modules c.modules (with_flag LoadedSources c.loaded_sources (with_flag FunctionBreakpoints c.function_breakpoints (with_flag ExceptionInfo c.exception_info (with_flag ConfigurationDone c.configuration_done (with_flag Completions c.completions (with_flag Cancel c.cancel (with_flag BreakpointLocations c.breakpoint_locations no_members)))))))))))

abbrev pub capabilities_data : Capabilities → Data
capabilities_data c = object (flags c)

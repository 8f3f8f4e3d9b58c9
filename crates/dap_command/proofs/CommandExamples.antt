-- Worked examples of commands by their names and of their gates, each shown by computation.
use Rattle.std.proofs.Common.{◌≡◌, codes, length, map, Some, None, refl}
use Rattle.dap_command.specs.Command.{name_of, gate_of, all_commands, command_named, flag_of}
use Rattle.dap_command.specs.declared.command.Command.TheVariants.{StepBack, ReverseContinue, SetExceptionBreakpoints, SetFunctionBreakpoints, Threads, Completions, Initialize, StepIn, StepOut, Continue, SetBreakpoints, Disconnect}
use Rattle.dap_command.specs.declared.command.Gate.TheVariants as gate

-- ---- names

how_many : length all_commands ≡ 30
how_many = refl

by_its_name : command_named (codes "setFunctionBreakpoints") ≡ Some SetFunctionBreakpoints
by_its_name = refl

first_and_last : (command_named (codes "initialize") ≡ Some Initialize) × (command_named (codes "completions") ≡ Some Completions)
first_and_last = (refl, refl)

in_and_out : (command_named (codes "stepIn") ≡ Some StepIn) × (command_named (codes "stepOut") ≡ Some StepOut)
in_and_out = (refl, refl)

-- each is found by its own name
all_by_their_names : map (λ command. command_named (name_of command)) all_commands ≡ map Some all_commands
all_by_their_names = refl

other_case : command_named (codes "Threads") ≡ None
other_case = refl

a_space_more : command_named (codes "threads ") ≡ None
a_space_more = refl

front_of_a_name : (command_named (codes "step") ≡ None) × (command_named (codes "setBreakpoint") ≡ None)
front_of_a_name = (refl, refl)

not_served_at_all : (command_named (codes "readMemory") ≡ None) × (command_named (codes "goto") ≡ None)
not_served_at_all = (refl, refl)

no_name : command_named (codes "") ≡ None
no_name = refl

-- ---- gates

two_commands_of_one_gate : (gate_of StepBack ≡ Some gate.StepBack) × (gate_of ReverseContinue ≡ Some gate.StepBack)
two_commands_of_one_gate = (refl, refl)

filters_have_no_gate : gate_of SetExceptionBreakpoints ≡ None
filters_have_no_gate = refl

what_every_adapter_serves : (gate_of Threads ≡ None) × (gate_of SetBreakpoints ≡ None) × (gate_of Continue ≡ None) × (gate_of Disconnect ≡ None)
what_every_adapter_serves = (refl, refl, refl, refl)

functions_have_a_gate : gate_of SetFunctionBreakpoints ≡ Some gate.FunctionBreakpoints
functions_have_a_gate = refl

-- the flag of a request ends in that word, but for three
flags_of_requests : (flag_of gate.Terminate ≡ codes "supportsTerminateRequest") × (flag_of gate.ConfigurationDone ≡ codes "supportsConfigurationDoneRequest")
flags_of_requests = (refl, refl)

flags_of_other_names : (flag_of gate.FunctionBreakpoints ≡ codes "supportsFunctionBreakpoints") × (flag_of gate.SetVariable ≡ codes "supportsSetVariable") × (flag_of gate.StepBack ≡ codes "supportsStepBack")
flags_of_other_names = (refl, refl, refl)

-- Worked examples of arguments and the calls that they are, each shown by computation.
use Rattle.std.proofs.Common.{◌≡◌, [], ◌∷◌, codes, true, false, Some, None, Ok, Err, pos, negsuc, refl}
use Rattle.std.specs.Str.{is_utf8, chars}
use Rattle.serde_json.specs.Data.{string, object, no_members, put}
use Rattle.serde_json.proofs.OnLiterals.{serde_json_on_literals}
use Rattle.dap_json.specs.Read.{json_of}
use Rattle.dap_call.specs.Call.{call_of, source_parts, initialize_of, cancel_of, given_lines, set_breakpoints_of, set_function_breakpoints_of, set_exception_breakpoints_of, stack_trace_of, evaluate_of, scopes_of, variables_of, source_of, set_variable_of, modules_of, breakpoint_locations_of, completions_of, thread_of}
use Rattle.dap_call.specs.declared.call.Call.TheVariants as call
use Rattle.dap_command.specs.declared.source_key.SourceKey.TheVariants.{Path, Reference}
use Rattle.dap_command.specs.declared.command.Command.TheVariants as command
use Rattle.dap_command.specs.declared.key.Key.TheVariants as key

-- ---- starting

all_defaults : call_of command.Initialize None ≡ Ok (call.Initialize (record { adapter_id = []; lines_start_at_1 = true; columns_start_at_1 = true; supports_variable_paging = false; supports_run_in_terminal_request = false }))
unfolding initialize_of json_of is_utf8 chars serde_json_on_literals
all_defaults = refl

other_keys_are_ignored : call_of command.Initialize (json_of (codes "{\"adapterID\":\"rec\",\"linesStartAt1\":false,\"supportsVariablePaging\":true,\"locale\":7}")) ≡ Ok (call.Initialize (record { adapter_id = codes "rec"; lines_start_at_1 = false; columns_start_at_1 = true; supports_variable_paging = true; supports_run_in_terminal_request = false }))
unfolding initialize_of json_of is_utf8 chars serde_json_on_literals
other_keys_are_ignored = refl

-- the order is the row's, and not the object's
first_bad_flag : (call_of command.Initialize (json_of (codes "{\"columnsStartAt1\":1,\"linesStartAt1\":\"\"}")) ≡ Err key.LinesStartAt1) × (call_of command.Initialize (json_of (codes "[]")) ≡ Err key.Arguments)
unfolding initialize_of json_of is_utf8 chars serde_json_on_literals
first_bad_flag = (refl, refl)

tree_is_kept : (call_of command.Launch (json_of (codes "{\"program\":\"a\"}")) ≡ Ok (call.Launch (Some (object (put (codes "program") (string (codes "a")) no_members))))) × (call_of command.Attach (json_of (codes "{}")) ≡ Ok (call.Attach (Some (object no_members))))
unfolding json_of is_utf8 chars serde_json_on_literals
tree_is_kept = (refl, refl)

no_tree : (call_of command.Launch None ≡ Ok (call.Launch None)) × (call_of command.Attach (json_of (codes "null")) ≡ Ok (call.Attach None)) × (call_of command.Attach (json_of (codes "\"x\"")) ≡ Err key.Arguments)
unfolding json_of is_utf8 chars serde_json_on_literals
no_tree = (refl, refl, refl)

-- ---- without keys

arguments_are_ignored : (call_of command.ConfigurationDone (json_of (codes "[1]")) ≡ Ok call.ConfigurationDone) × (call_of command.Threads (json_of (codes "7")) ≡ Ok call.Threads) × (call_of command.Restart (json_of (codes "{\"arguments\":[]}")) ≡ Ok call.Restart) × (call_of command.LoadedSources None ≡ Ok call.LoadedSources)
unfolding json_of is_utf8 chars serde_json_on_literals
arguments_are_ignored = (refl, refl, refl, refl)

-- ---- threads

of_either_sign : (call_of command.Continue (json_of (codes "{\"threadId\":1}")) ≡ Ok (call.Continue (pos 1))) × (call_of command.Pause (json_of (codes "{\"threadId\":-1}")) ≡ Ok (call.Pause (negsuc 0))) × (call_of command.ReverseContinue (json_of (codes "{\"threadId\":0}")) ≡ Ok (call.ReverseContinue (pos 0)))
unfolding thread_of json_of is_utf8 chars serde_json_on_literals
of_either_sign = (refl, refl, refl)

thread_is_required : (call_of command.Next None ≡ Err key.Arguments) × (call_of command.StepIn (json_of (codes "{}")) ≡ Err key.ThreadId) × (call_of command.StepOut (json_of (codes "{\"threadId\":null}")) ≡ Err key.ThreadId) × (call_of command.ExceptionInfo (json_of (codes "{\"threadId\":\"1\"}")) ≡ Err key.ThreadId)
unfolding thread_of json_of is_utf8 chars serde_json_on_literals
thread_is_required = (refl, refl, refl, refl)

request_to_cancel : (call_of command.Cancel (json_of (codes "{\"requestId\":2}")) ≡ Ok (call.Cancel (Some 2))) × (call_of command.Cancel (json_of (codes "{\"progressId\":\"p\"}")) ≡ Ok (call.Cancel None)) × (call_of command.Cancel (json_of (codes "{\"requestId\":-2}")) ≡ Err key.RequestId)
unfolding cancel_of json_of is_utf8 chars serde_json_on_literals
request_to_cancel = (refl, refl, refl)

-- ---- breakpoints

lines_alone : call_of command.SetBreakpoints (json_of (codes "{\"source\":{\"path\":\"/a.c\"},\"lines\":[2]}")) ≡ Ok (call.SetBreakpoints (Path (codes "/a.c")) (2 ∷ []))
unfolding set_breakpoints_of given_lines source_parts json_of is_utf8 chars serde_json_on_literals
lines_alone = refl

breakpoints_before_lines : call_of command.SetBreakpoints (json_of (codes "{\"source\":{\"sourceReference\":3},\"breakpoints\":[{\"line\":1},{\"line\":9,\"column\":\"x\"}],\"lines\":[5]}")) ≡ Ok (call.SetBreakpoints (Reference 3) (1 ∷ 9 ∷ []))
unfolding set_breakpoints_of given_lines source_parts json_of is_utf8 chars serde_json_on_literals
breakpoints_before_lines = refl

-- an empty array is there, and null is not
no_breakpoints_before_lines : (call_of command.SetBreakpoints (json_of (codes "{\"source\":{\"path\":\"a\"},\"breakpoints\":[],\"lines\":[5]}")) ≡ Ok (call.SetBreakpoints (Path (codes "a")) [])) × (call_of command.SetBreakpoints (json_of (codes "{\"source\":{\"path\":\"a\"},\"breakpoints\":null,\"lines\":[5]}")) ≡ Ok (call.SetBreakpoints (Path (codes "a")) (5 ∷ [])))
unfolding set_breakpoints_of given_lines source_parts json_of is_utf8 chars serde_json_on_literals
no_breakpoints_before_lines = (refl, refl)

-- no breakpoints count before lines, which are tested all the same, but after the breakpoints
lines_are_tested : (call_of command.SetBreakpoints (json_of (codes "{\"source\":{\"path\":\"a\"},\"breakpoints\":[],\"lines\":true}")) ≡ Err key.Lines) × (call_of command.SetBreakpoints (json_of (codes "{\"source\":{\"path\":\"a\"},\"breakpoints\":[{}],\"lines\":true}")) ≡ Err key.Breakpoints)
unfolding set_breakpoints_of given_lines source_parts json_of is_utf8 chars serde_json_on_literals
lines_are_tested = (refl, refl)

-- the row's key is told, and not the one inside the source
source_without_a_name : (call_of command.SetBreakpoints (json_of (codes "{\"source\":{}}")) ≡ Err key.Source) × (call_of command.SetBreakpoints (json_of (codes "{\"source\":{\"path\":1,\"sourceReference\":3}}")) ≡ Err key.Source) × (call_of command.SetBreakpoints (json_of (codes "{\"lines\":[]}")) ≡ Err key.Source)
unfolding set_breakpoints_of given_lines source_parts json_of is_utf8 chars serde_json_on_literals
source_without_a_name = (refl, refl, refl)

-- an empty path is a path
path_before_reference : call_of command.SetBreakpoints (json_of (codes "{\"source\":{\"path\":\"\",\"sourceReference\":3}}")) ≡ Ok (call.SetBreakpoints (Path []) [])
unfolding set_breakpoints_of given_lines source_parts json_of is_utf8 chars serde_json_on_literals
path_before_reference = refl

names_of_functions : (call_of command.SetFunctionBreakpoints (json_of (codes "{\"breakpoints\":[{\"name\":\"f\"},{\"name\":\"g\",\"condition\":1}]}")) ≡ Ok (call.SetFunctionBreakpoints (codes "f" ∷ codes "g" ∷ []))) × (call_of command.SetFunctionBreakpoints (json_of (codes "{\"breakpoints\":[{\"name\":\"f\"},{\"name\":null}]}")) ≡ Err key.Breakpoints)
unfolding set_function_breakpoints_of json_of is_utf8 chars serde_json_on_literals
names_of_functions = (refl, refl)

filters : (call_of command.SetExceptionBreakpoints (json_of (codes "{\"filters\":[\"raised\",\"uncaught\"]}")) ≡ Ok (call.SetExceptionBreakpoints (codes "raised" ∷ codes "uncaught" ∷ []))) × (call_of command.SetExceptionBreakpoints (json_of (codes "{\"filters\":[null]}")) ≡ Err key.Filters) × (call_of command.SetExceptionBreakpoints (json_of (codes "{}")) ≡ Err key.Filters)
unfolding set_exception_breakpoints_of json_of is_utf8 chars serde_json_on_literals
filters = (refl, refl, refl)

locations : (call_of command.BreakpointLocations (json_of (codes "{\"source\":{\"path\":\"a\"},\"line\":3}")) ≡ Ok (call.BreakpointLocations (record { source = Path (codes "a"); line = 3; end_line = None }))) × (call_of command.BreakpointLocations (json_of (codes "{\"source\":{\"path\":\"a\"},\"endLine\":\"\"}")) ≡ Err key.Line)
unfolding breakpoint_locations_of source_parts json_of is_utf8 chars serde_json_on_literals
locations = (refl, refl)

-- ---- looking

frames : (call_of command.StackTrace (json_of (codes "{\"threadId\":1,\"startFrame\":null,\"levels\":20}")) ≡ Ok (call.StackTrace (record { thread_id = pos 1; start_frame = 0; levels = 20 }))) × (call_of command.StackTrace (json_of (codes "{\"levels\":1}")) ≡ Err key.ThreadId)
unfolding stack_trace_of json_of is_utf8 chars serde_json_on_literals
frames = (refl, refl)

scopes_of_a_frame : (call_of command.Scopes (json_of (codes "{\"frameId\":0}")) ≡ Ok (call.Scopes 0)) × (call_of command.Scopes (json_of (codes "{\"frameId\":2147483648}")) ≡ Err key.FrameId)
unfolding scopes_of json_of is_utf8 chars serde_json_on_literals
scopes_of_a_frame = (refl, refl)

variables : (call_of command.Variables (json_of (codes "{\"variablesReference\":2,\"filter\":7,\"count\":3}")) ≡ Ok (call.Variables (record { variables_reference = 2; start = 0; count = 3 }))) × (call_of command.Variables (json_of (codes "{\"variablesReference\":2,\"start\":\"\",\"count\":-3}")) ≡ Err key.Start)
unfolding variables_of json_of is_utf8 chars serde_json_on_literals
variables = (refl, refl)

-- no frame is not frame 0
evaluation : (call_of command.Evaluate (json_of (codes "{\"expression\":\"p\"}")) ≡ Ok (call.Evaluate (record { expression = codes "p"; frame_id = None }))) × (call_of command.Evaluate (json_of (codes "{\"frameId\":-1}")) ≡ Err key.Expression)
unfolding evaluate_of json_of is_utf8 chars serde_json_on_literals
evaluation = (refl, refl)

inner_reference_before_outer : (call_of command.Source (json_of (codes "{\"source\":{\"path\":\"a\",\"sourceReference\":2},\"sourceReference\":3}")) ≡ Ok (call.Source 2)) × (call_of command.Source (json_of (codes "{\"source\":{\"path\":\"a\"},\"sourceReference\":3}")) ≡ Ok (call.Source 3)) × (call_of command.Source None ≡ Ok (call.Source 0))
unfolding source_of source_parts json_of is_utf8 chars serde_json_on_literals
inner_reference_before_outer = (refl, refl, refl)

both_references_are_tested : (call_of command.Source (json_of (codes "{\"source\":{\"sourceReference\":2},\"sourceReference\":-3}")) ≡ Err key.SourceReference) × (call_of command.Source (json_of (codes "{\"source\":{\"path\":1},\"sourceReference\":-3}")) ≡ Err key.Source)
unfolding source_of source_parts json_of is_utf8 chars serde_json_on_literals
both_references_are_tested = (refl, refl)

value_of_a_variable : (call_of command.SetVariable (json_of (codes "{\"variablesReference\":2,\"name\":\"x\",\"value\":\"7\"}")) ≡ Ok (call.SetVariable (record { variables_reference = 2; name = codes "x"; value = codes "7" }))) × (call_of command.SetVariable (json_of (codes "{\"variablesReference\":2,\"value\":7}")) ≡ Err key.Name)
unfolding set_variable_of json_of is_utf8 chars serde_json_on_literals
value_of_a_variable = (refl, refl)

modules : (call_of command.Modules (json_of (codes "{\"moduleCount\":5}")) ≡ Ok (call.Modules (record { start_module = 0; module_count = 5 }))) × (call_of command.Modules (json_of (codes "{\"startModule\":[]}")) ≡ Err key.StartModule)
unfolding modules_of json_of is_utf8 chars serde_json_on_literals
modules = (refl, refl)

completions : (call_of command.Completions (json_of (codes "{\"text\":\"pr\",\"column\":3,\"line\":4}")) ≡ Ok (call.Completions (record { text = codes "pr"; column = 3; frame_id = None; line = Some 4 }))) × (call_of command.Completions (json_of (codes "{\"text\":\"pr\"}")) ≡ Err key.Column)
unfolding completions_of json_of is_utf8 chars serde_json_on_literals
completions = (refl, refl)

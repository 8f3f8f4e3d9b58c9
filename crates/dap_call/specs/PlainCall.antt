-- Which calls can be written; they are then read again as themselves.
-- This profile's choice: the ranges, that a source without a path has a reference above 0, and that a tree is an object without floats, nested at most 100 deep.
use Rattle.std.specs.Prelude.{◌≡◌, ℕ, ◌&&◌, Bool, true, nat_le, nat_lt, Option, Some, None, IsTrue, Ok}
use Rattle.std.specs.List.{list_all}
use Rattle.serde_json.specs.Data.{Data}
use Rattle.dap_json.specs.Field.{is_object, max_seq}
use Rattle.dap_json.specs.Writable.{is_writable, is_plain_tree}
use Rattle.dap_command.specs.Numbers.{is_int, is_number, is_none_or}
use Rattle.dap_call.specs.Call.{call_of}
use Rattle.dap_call.specs.CallTree.{call_tree, command_of}
use Rattle.dap_call.specs.declared.call.Call.{Call}
use Rattle.dap_call.specs.declared.call.Call.TheVariants as call
use Rattle.dap_command.specs.declared.source_key.SourceKey.{SourceKey}
use Rattle.dap_command.specs.declared.source_key.SourceKey.TheVariants.{Path, Reference}

abbrev pub is_plain_source : SourceKey → Bool
is_plain_source (Path path) = true
is_plain_source (Reference reference) = nat_lt 0 reference && is_number reference

-- how deep the tree of `launch` or `attach` may nest
abbrev pub max_arguments : ℕ
max_arguments = 100

abbrev pub are_plain_arguments : Option Data → Bool
are_plain_arguments None = true
are_plain_arguments (Some d) = is_object d && is_writable max_arguments d

abbrev pub is_plain_call : Call → Bool
is_plain_call (call.Initialize a) = true
is_plain_call (call.Launch tree) = are_plain_arguments tree
is_plain_call (call.Attach tree) = are_plain_arguments tree
is_plain_call call.ConfigurationDone = true
is_plain_call call.Disconnect = true
is_plain_call call.Threads = true
is_plain_call call.Terminate = true
is_plain_call (call.Cancel request) = is_none_or (λ n. nat_le n max_seq) request
is_plain_call (call.SetBreakpoints source lines) = is_plain_source source && list_all is_number lines
is_plain_call (call.SetFunctionBreakpoints names) = true
is_plain_call (call.SetExceptionBreakpoints filters) = true
is_plain_call (call.Continue thread) = is_int thread
is_plain_call (call.Next thread) = is_int thread
is_plain_call (call.StepIn thread) = is_int thread
is_plain_call (call.StepOut thread) = is_int thread
is_plain_call (call.Pause thread) = is_int thread
is_plain_call (call.StepBack thread) = is_int thread
is_plain_call (call.ReverseContinue thread) = is_int thread
is_plain_call (call.StackTrace a) = is_int a.thread_id && (is_number a.start_frame && is_number a.levels)
is_plain_call (call.Scopes frame) = is_number frame
is_plain_call (call.Variables a) = is_number a.variables_reference && (is_number a.start && is_number a.count)
is_plain_call (call.Evaluate a) = is_none_or is_number a.frame_id
is_plain_call (call.Source reference) = is_number reference
is_plain_call call.LoadedSources = true
is_plain_call (call.SetVariable a) = is_number a.variables_reference
is_plain_call call.Restart = true
is_plain_call (call.Modules a) = is_number a.start_module && is_number a.module_count
is_plain_call (call.ExceptionInfo thread) = is_int thread
is_plain_call (call.BreakpointLocations a) = is_plain_source a.source && (is_number a.line && is_none_or is_number a.end_line)
is_plain_call (call.Completions a) = is_number a.column && (is_none_or is_number a.frame_id && is_none_or is_number a.line)

-- ---- laws

-- a plain call, once written, is read again as itself
abbrev pub WrittenCallIsReadAgain : Type 0
WrittenCallIsReadAgain = (c : Call) → IsTrue (is_plain_call c) → call_of (command_of c) (call_tree c) ≡ Ok c

-- what a plain call is written as can be the arguments of a message that is written
abbrev pub WrittenCallIsPlain : Type 0
WrittenCallIsPlain = (c : Call) → IsTrue (is_plain_call c) → IsTrue (is_plain_tree (call_tree c))

-- What a call is written as: the object of its arguments; nothing where no key is written, save that `launch` and `attach` are written as their tree.
-- Specification, "Requests" and the types whose names end in "Arguments". This profile's choice: a key with its default value is left out, save an empty `adapterID`, empty `breakpoints` and the `sourceReference` 0.
use Rattle.std.specs.Prelude.{map, ℕ, zero, suc, ℤ, List, Bool, true, false, Option, Some, None, option_map}
use Rattle.serde_json.specs.Data.{Data, boolean, number, string, array, object, Items, Members, no_members, member, put}
use Rattle.serde_json.specs.Find.{of_integer}
use Rattle.serde_json.specs.View.{items_of}
use Rattle.dap_json.specs.Put.{put_if, whole_number}
use Rattle.dap_command.specs.Key.{text_of}
use Rattle.dap_command.specs.declared.key.Key.{Key}
use Rattle.dap_command.specs.declared.key.Key.TheVariants as key
use Rattle.dap_call.specs.declared.call.Call.{Call}
use Rattle.dap_call.specs.declared.call.Call.TheVariants as call
use Rattle.dap_call.specs.declared.call.Initialize.{Initialize}
use Rattle.dap_call.specs.declared.call.StackTrace.{StackTrace}
use Rattle.dap_call.specs.declared.call.Variables.{Variables}
use Rattle.dap_call.specs.declared.call.Evaluate.{Evaluate}
use Rattle.dap_call.specs.declared.call.SetVariable.{SetVariable}
use Rattle.dap_call.specs.declared.call.Modules.{Modules}
use Rattle.dap_call.specs.declared.call.BreakpointLocations.{BreakpointLocations}
use Rattle.dap_call.specs.declared.call.Completions.{Completions}
use Rattle.dap_command.specs.declared.source_key.SourceKey.{SourceKey}
use Rattle.dap_command.specs.declared.source_key.SourceKey.TheVariants.{Path, Reference}
use Rattle.dap_command.specs.declared.command.Command.{Command}
use Rattle.dap_command.specs.declared.command.Command.TheVariants as command

-- ---- members

abbrev pub with : Key → Data → Members → Members
with k d ms = put (text_of k) d ms

-- a number whose default is 0
abbrev pub with_number : Key → ℕ → Members → Members
with_number k zero ms = ms
with_number k (suc n) ms = with k (whole_number (suc n)) ms

-- a flag whose default is `true`
abbrev pub with_false : Key → Bool → Members → Members
with_false k true ms = ms
with_false k false ms = with k (boolean false) ms

-- a flag whose default is `false`
abbrev pub with_true : Key → Bool → Members → Members
with_true k true ms = with k (boolean true) ms
with_true k false ms = ms

-- a number that may be absent
abbrev pub with_optional : Key → Option ℕ → Members → Members
with_optional k n ms = put_if (text_of k) (option_map whole_number n) ms

-- a text that may be absent
abbrev pub with_optional_text : Key → Option (List ℕ) → Members → Members
with_optional_text k text ms = put_if (text_of k) (option_map string text) ms

abbrev pub int : ℤ → Data
int z = number (of_integer z)

-- nothing where no key is written
abbrev pub if_any : Members → Option Data
if_any no_members = None
if_any (member k d ms) = Some (object (member k d ms))

-- ---- shapes

abbrev pub source_tree : SourceKey → Data
source_tree (Path path) = object (with key.Path (string path) no_members)
source_tree (Reference reference) = object (with key.SourceReference (whole_number reference) no_members)

abbrev pub breakpoint_tree : ℕ → Data
breakpoint_tree line = object (with key.Line (whole_number line) no_members)

abbrev pub breakpoint_items : List ℕ → Items
breakpoint_items lines = items_of (map breakpoint_tree lines)

abbrev pub function_tree : List ℕ → Data
function_tree name = object (with key.Name (string name) no_members)

abbrev pub function_items : List (List ℕ) → Items
function_items names = items_of (map function_tree names)

abbrev pub text_items : List (List ℕ) → Items
text_items texts = items_of (map string texts)

-- ---- rows

-- an empty id is written too
unfoldable pub initialize_members : Initialize → Members
initialize_members a =
    with_true key.SupportsRunInTerminalRequest a.supports_run_in_terminal_request (with_true key.SupportsVariablePaging a.supports_variable_paging
    (with_false key.ColumnsStartAt1 a.columns_start_at_1 (with_false key.LinesStartAt1 a.lines_start_at_1 (with key.AdapterId (string a.adapter_id) no_members))))

-- `requestId` has no default, so 0 is written, as it is for `frameId`, `line` and `endLine`
abbrev pub cancel_members : Option ℕ → Members
cancel_members request = with_optional key.RequestId request no_members

-- an empty list is written too
unfoldable pub set_breakpoints_members : SourceKey → List ℕ → Members
set_breakpoints_members source lines = with key.Breakpoints (array (breakpoint_items lines)) (with key.Source (source_tree source) no_members)

abbrev pub set_function_breakpoints_members : List (List ℕ) → Members
set_function_breakpoints_members names = with key.Breakpoints (array (function_items names)) no_members

abbrev pub set_exception_breakpoints_members : List (List ℕ) → Members
set_exception_breakpoints_members filters = with key.Filters (array (text_items filters)) no_members

abbrev pub thread_members : ℤ → Members
thread_members thread = with key.ThreadId (int thread) no_members

unfoldable pub stack_trace_members : StackTrace → Members
stack_trace_members a = with_number key.Levels a.levels (with_number key.StartFrame a.start_frame (thread_members a.thread_id))

abbrev pub scopes_members : ℕ → Members
scopes_members frame = with key.FrameId (whole_number frame) no_members

unfoldable pub variables_members : Variables → Members
variables_members a = with_number key.Count a.count (with_number key.Start a.start (with key.VariablesReference (whole_number a.variables_reference) no_members))

unfoldable pub evaluate_members : Evaluate → Members
evaluate_members a = with_optional key.FrameId a.frame_id (with key.Expression (string a.expression) no_members)

-- 0 is written too
abbrev pub source_members : ℕ → Members
source_members reference = with key.SourceReference (whole_number reference) no_members

unfoldable pub set_variable_members : SetVariable → Members
set_variable_members a = with key.Value (string a.value) (with key.Name (string a.name) (with key.VariablesReference (whole_number a.variables_reference) no_members))

unfoldable pub modules_members : Modules → Members
modules_members a = with_number key.ModuleCount a.module_count (with_number key.StartModule a.start_module no_members)

unfoldable pub breakpoint_locations_members : BreakpointLocations → Members
breakpoint_locations_members a = with_optional key.EndLine a.end_line (with key.Line (whole_number a.line) (with key.Source (source_tree a.source) no_members))

unfoldable pub completions_members : Completions → Members
completions_members a = with_optional key.Line a.line (with_optional key.FrameId a.frame_id (with key.Column (whole_number a.column) (with key.Text (string a.text) no_members)))

-- the trees of `launch` and `attach` are kept whole; a command without keys, and one whose keys are all left out, writes nothing
abbrev pub call_tree : Call → Option Data
call_tree (call.Initialize a) = if_any (initialize_members a)
call_tree (call.Launch tree) = tree
call_tree (call.Attach tree) = tree
call_tree call.ConfigurationDone = None
call_tree call.Disconnect = None
call_tree call.Threads = None
call_tree call.Terminate = None
call_tree (call.Cancel request) = if_any (cancel_members request)
call_tree (call.SetBreakpoints source lines) = if_any (set_breakpoints_members source lines)
call_tree (call.SetFunctionBreakpoints names) = if_any (set_function_breakpoints_members names)
call_tree (call.SetExceptionBreakpoints filters) = if_any (set_exception_breakpoints_members filters)
call_tree (call.Continue thread) = if_any (thread_members thread)
call_tree (call.Next thread) = if_any (thread_members thread)
call_tree (call.StepIn thread) = if_any (thread_members thread)
call_tree (call.StepOut thread) = if_any (thread_members thread)
call_tree (call.Pause thread) = if_any (thread_members thread)
call_tree (call.StepBack thread) = if_any (thread_members thread)
call_tree (call.ReverseContinue thread) = if_any (thread_members thread)
call_tree (call.StackTrace a) = if_any (stack_trace_members a)
call_tree (call.Scopes frame) = if_any (scopes_members frame)
call_tree (call.Variables a) = if_any (variables_members a)
call_tree (call.Evaluate a) = if_any (evaluate_members a)
call_tree (call.Source reference) = if_any (source_members reference)
call_tree call.LoadedSources = None
call_tree (call.SetVariable a) = if_any (set_variable_members a)
call_tree call.Restart = None
call_tree (call.Modules a) = if_any (modules_members a)
call_tree (call.ExceptionInfo thread) = if_any (thread_members thread)
call_tree (call.BreakpointLocations a) = if_any (breakpoint_locations_members a)
call_tree (call.Completions a) = if_any (completions_members a)

abbrev pub command_of : Call → Command
command_of (call.Initialize a) = command.Initialize
command_of (call.Launch tree) = command.Launch
command_of (call.Attach tree) = command.Attach
command_of call.ConfigurationDone = command.ConfigurationDone
command_of call.Disconnect = command.Disconnect
command_of call.Threads = command.Threads
command_of call.Terminate = command.Terminate
command_of (call.Cancel request) = command.Cancel
command_of (call.SetBreakpoints source lines) = command.SetBreakpoints
command_of (call.SetFunctionBreakpoints names) = command.SetFunctionBreakpoints
command_of (call.SetExceptionBreakpoints filters) = command.SetExceptionBreakpoints
command_of (call.Continue thread) = command.Continue
command_of (call.Next thread) = command.Next
command_of (call.StepIn thread) = command.StepIn
command_of (call.StepOut thread) = command.StepOut
command_of (call.Pause thread) = command.Pause
command_of (call.StepBack thread) = command.StepBack
command_of (call.ReverseContinue thread) = command.ReverseContinue
command_of (call.StackTrace a) = command.StackTrace
command_of (call.Scopes frame) = command.Scopes
command_of (call.Variables a) = command.Variables
command_of (call.Evaluate a) = command.Evaluate
command_of (call.Source reference) = command.Source
command_of call.LoadedSources = command.LoadedSources
command_of (call.SetVariable a) = command.SetVariable
command_of call.Restart = command.Restart
command_of (call.Modules a) = command.Modules
command_of (call.ExceptionInfo thread) = command.ExceptionInfo
command_of (call.BreakpointLocations a) = command.BreakpointLocations
command_of (call.Completions a) = command.Completions

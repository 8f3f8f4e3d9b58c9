-- Which call a command and its arguments are, or the first bad key.
-- Specification, "Requests", and the types whose names end in "Arguments", one for each command with keys; "Source",
-- "SourceBreakpoint" and "FunctionBreakpoint" for what stands inside them. This profile's choice: which keys are read, and
-- the order in which they are tested; that an absent `adapterID` reads as empty; that `breakpoints` counts before the
-- deprecated `lines`, and a path before a reference; and that arguments of a command without keys are ignored.
use Rattle.std.specs.Prelude.{ℕ, zero, suc, ℤ, List, [], ◌∷◌, Bool, true, false, Option, Some, None, option_and_then, option_map, unwrap_or, Ok, Err, ◌==◌, if◌then◌else◌}
use Rattle.serde_json.specs.Data.{Data, Items, no_items, item}
use Rattle.serde_json.specs.Find.{as_str, as_bool, as_array}
use Rattle.dap_json.specs.Steps.{◌>>=◌}
use Rattle.dap_call.specs.Argument.{Read, value_at, required_at, optional_at, optional_or, may_be_absent, must_be_there}
use Rattle.dap_command.specs.Numbers.{int_of, number_of, seq_of}
use Rattle.dap_command.specs.declared.key.Key.TheVariants as key
use Rattle.dap_call.specs.declared.call.Call.{Call}
use Rattle.dap_call.specs.declared.call.Call.TheVariants as call
use Rattle.dap_command.specs.declared.source_key.SourceKey.{SourceKey}
use Rattle.dap_command.specs.declared.source_key.SourceKey.TheVariants.{Path, Reference}
use Rattle.dap_command.specs.declared.command.Command.{Command}
use Rattle.dap_command.specs.declared.command.Command.TheVariants as command

-- ---- shapes

-- the elements, each in a shape
abbrev pub each : {A : Type 0} → (Data → Option A) → Items → Option (List A)
each shape no_items = Some []
each shape (item d ds) = option_and_then (λ x. option_map (λ xs. x ∷ xs) (each shape ds)) (shape d)

abbrev pub lines_of : Data → Option (List ℕ)
lines_of d = option_and_then (each number_of) (as_array d)

abbrev pub line_in : Data → Option ℕ
line_in d = option_and_then number_of (value_at key.Line (Some d))

abbrev pub breakpoint_lines_of : Data → Option (List ℕ)
breakpoint_lines_of d = option_and_then (each line_in) (as_array d)

-- the name of a function breakpoint
abbrev pub name_in : Data → Option (List ℕ)
name_in d = option_and_then as_str (value_at key.Name (Some d))

abbrev pub names_of : Data → Option (List (List ℕ))
names_of d = option_and_then (each name_in) (as_array d)

abbrev pub texts_of : Data → Option (List (List ℕ))
texts_of d = option_and_then (each as_str) (as_array d)

-- by its path where it has one, else by its reference
abbrev pub source_named : Option (List ℕ) → ℕ → Option SourceKey
source_named (Some path) reference = Some (Path path)
source_named None zero = None
source_named None (suc reference) = Some (Reference (suc reference))

abbrev pub read_ok : {A : Type 0} → Read A → Option A
read_ok (Ok x) = Some x
read_ok (Err k) = None

-- a source's path and its reference
unfoldable pub source_parts : Data → Read (Option (List ℕ) × ℕ)
source_parts d = do
  source ← must_be_there (Some d)
  path ← optional_at as_str key.Path source
  reference ← optional_or number_of 0 key.SourceReference source
  Ok (path, reference)

abbrev pub source_key_of : Data → Option SourceKey
source_key_of d = option_and_then (λ p. source_named p.0 p.1) (read_ok (source_parts d))

-- the reference of a source, 0 where it has none
abbrev pub source_reference_of : Data → Option ℕ
source_reference_of d = option_map (λ p. p.1) (read_ok (source_parts d))

-- ---- rows

unfoldable pub initialize_of : Option Data → Read Call
initialize_of given = do
  arguments ← may_be_absent given
  adapter ← optional_or as_str [] key.AdapterId arguments
  lines ← optional_or as_bool true key.LinesStartAt1 arguments
  columns ← optional_or as_bool true key.ColumnsStartAt1 arguments
  paging ← optional_or as_bool false key.SupportsVariablePaging arguments
  terminal ← optional_or as_bool false key.SupportsRunInTerminalRequest arguments
  Ok (call.Initialize (record {
    adapter_id = adapter;
    lines_start_at_1 = lines;
    columns_start_at_1 = columns;
    supports_variable_paging = paging;
    supports_run_in_terminal_request = terminal;
  }))

unfoldable pub cancel_of : Option Data → Read Call
cancel_of given = do
  arguments ← may_be_absent given
  request ← optional_at seq_of key.RequestId arguments
  Ok (call.Cancel request)

-- both keys are tested, and `breakpoints` counts
unfoldable pub given_lines : Option Data → Read (List ℕ)
given_lines arguments = do
  breakpoints ← optional_at breakpoint_lines_of key.Breakpoints arguments
  lines ← optional_at lines_of key.Lines arguments
  Ok (unwrap_or breakpoints (unwrap_or lines []))

unfoldable pub set_breakpoints_of : Option Data → Read Call
set_breakpoints_of given = do
  arguments ← must_be_there given
  source ← required_at source_key_of key.Source arguments
  lines ← given_lines arguments
  Ok (call.SetBreakpoints source lines)

unfoldable pub set_function_breakpoints_of : Option Data → Read Call
set_function_breakpoints_of given = do
  arguments ← must_be_there given
  names ← required_at names_of key.Breakpoints arguments
  Ok (call.SetFunctionBreakpoints names)

unfoldable pub set_exception_breakpoints_of : Option Data → Read Call
set_exception_breakpoints_of given = do
  arguments ← must_be_there given
  filters ← required_at texts_of key.Filters arguments
  Ok (call.SetExceptionBreakpoints filters)

unfoldable pub stack_trace_of : Option Data → Read Call
stack_trace_of given = do
  arguments ← must_be_there given
  thread ← required_at int_of key.ThreadId arguments
  start ← optional_or number_of 0 key.StartFrame arguments
  levels ← optional_or number_of 0 key.Levels arguments
  Ok (call.StackTrace (record { thread_id = thread; start_frame = start; levels = levels }))

unfoldable pub evaluate_of : Option Data → Read Call
evaluate_of given = do
  arguments ← must_be_there given
  expression ← required_at as_str key.Expression arguments
  frame ← optional_at number_of key.FrameId arguments
  Ok (call.Evaluate (record { expression = expression; frame_id = frame }))

unfoldable pub scopes_of : Option Data → Read Call
scopes_of given = do
  arguments ← must_be_there given
  frame ← required_at number_of key.FrameId arguments
  Ok (call.Scopes frame)

unfoldable pub variables_of : Option Data → Read Call
variables_of given = do
  arguments ← must_be_there given
  reference ← required_at number_of key.VariablesReference arguments
  start ← optional_or number_of 0 key.Start arguments
  count ← optional_or number_of 0 key.Count arguments
  Ok (call.Variables (record { variables_reference = reference; start = start; count = count }))

-- a reference above 0 in the source counts before the one beside it
unfoldable pub source_of : Option Data → Read Call
source_of given = do
  arguments ← may_be_absent given
  source ← optional_at source_reference_of key.Source arguments
  reference ← optional_or number_of 0 key.SourceReference arguments
  Ok (call.Source (if unwrap_or source 0 == 0 then reference else unwrap_or source 0))

unfoldable pub set_variable_of : Option Data → Read Call
set_variable_of given = do
  arguments ← must_be_there given
  reference ← required_at number_of key.VariablesReference arguments
  name ← required_at as_str key.Name arguments
  value ← required_at as_str key.Value arguments
  Ok (call.SetVariable (record { variables_reference = reference; name = name; value = value }))

unfoldable pub modules_of : Option Data → Read Call
modules_of given = do
  arguments ← may_be_absent given
  start ← optional_or number_of 0 key.StartModule arguments
  count ← optional_or number_of 0 key.ModuleCount arguments
  Ok (call.Modules (record { start_module = start; module_count = count }))

unfoldable pub breakpoint_locations_of : Option Data → Read Call
breakpoint_locations_of given = do
  arguments ← must_be_there given
  source ← required_at source_key_of key.Source arguments
  line ← required_at number_of key.Line arguments
  end ← optional_at number_of key.EndLine arguments
  Ok (call.BreakpointLocations (record { source = source; line = line; end_line = end }))

unfoldable pub completions_of : Option Data → Read Call
completions_of given = do
  arguments ← must_be_there given
  text ← required_at as_str key.Text arguments
  column ← required_at number_of key.Column arguments
  frame ← optional_at number_of key.FrameId arguments
  line ← optional_at number_of key.Line arguments
  Ok (call.Completions (record { text = text; column = column; frame_id = frame; line = line }))

-- the one key of the commands that name a thread
unfoldable pub thread_of : Option Data → Read ℤ
thread_of given = do
  arguments ← must_be_there given
  required_at int_of key.ThreadId arguments

-- the whole arguments, where they are kept as a tree
abbrev pub tree_of : Option Data → Read (Option Data)
tree_of given = may_be_absent given

-- what was read, made a call
abbrev pub call_from : {A : Type 0} → (A → Call) → Read A → Read Call
call_from make (Ok x) = Ok (make x)
call_from make (Err k) = Err k

-- where a command has no keys, its arguments are ignored
abbrev pub call_of : Command → Option Data → Read Call
call_of command.Initialize given = initialize_of given
call_of command.Launch given = call_from call.Launch (tree_of given)
call_of command.Attach given = call_from call.Attach (tree_of given)
call_of command.ConfigurationDone given = Ok call.ConfigurationDone
call_of command.Disconnect given = Ok call.Disconnect
call_of command.Threads given = Ok call.Threads
call_of command.Terminate given = Ok call.Terminate
call_of command.Cancel given = cancel_of given
call_of command.SetBreakpoints given = set_breakpoints_of given
call_of command.SetFunctionBreakpoints given = set_function_breakpoints_of given
call_of command.SetExceptionBreakpoints given = set_exception_breakpoints_of given
call_of command.Continue given = call_from call.Continue (thread_of given)
call_of command.Next given = call_from call.Next (thread_of given)
call_of command.StepIn given = call_from call.StepIn (thread_of given)
call_of command.StepOut given = call_from call.StepOut (thread_of given)
call_of command.Pause given = call_from call.Pause (thread_of given)
call_of command.StepBack given = call_from call.StepBack (thread_of given)
call_of command.ReverseContinue given = call_from call.ReverseContinue (thread_of given)
call_of command.StackTrace given = stack_trace_of given
call_of command.Scopes given = scopes_of given
call_of command.Variables given = variables_of given
call_of command.Evaluate given = evaluate_of given
call_of command.Source given = source_of given
call_of command.LoadedSources given = Ok call.LoadedSources
call_of command.SetVariable given = set_variable_of given
call_of command.Restart given = Ok call.Restart
call_of command.Modules given = modules_of given
call_of command.ExceptionInfo given = call_from call.ExceptionInfo (thread_of given)
call_of command.BreakpointLocations given = breakpoint_locations_of given
call_of command.Completions given = completions_of given

-- whether a call of the command may hold a text, a list or a tree
abbrev pub takes_memory : Command → Bool
takes_memory command.Initialize = true
takes_memory command.Launch = true
takes_memory command.Attach = true
takes_memory command.SetBreakpoints = true
takes_memory command.SetFunctionBreakpoints = true
takes_memory command.SetExceptionBreakpoints = true
takes_memory command.Evaluate = true
takes_memory command.SetVariable = true
takes_memory command.BreakpointLocations = true
takes_memory command.Completions = true
takes_memory _ = false

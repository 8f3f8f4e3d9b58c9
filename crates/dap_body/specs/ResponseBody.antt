-- The bodies of responses, and the objects in them, as rows of fields: Specification, the types whose names end in "Response", and "Types".
-- Which of the optional members are a row's own is this profile's choice. A member that a row never has is its own all the same where a reader would take it for references, as `variablesReference` of a value that is set.
use Rattle.std.specs.Prelude.{ℕ, List, [], ◌∷◌, ◌++◌, Bool, true, false, Option, Some, None, codes, map, option_map, if◌then◌else◌}
use Rattle.serde_json.specs.Data.{Data, boolean}
use Rattle.dap_command.specs.Capabilities.{has}
use Rattle.dap_command.specs.Command.{flag_of}
use Rattle.dap_command.specs.Offer.{gates_of}
use Rattle.dap_command.specs.declared.capabilities.Capabilities.{Capabilities}
use Rattle.dap_command.specs.declared.offer.Offer.{Offer}
use Rattle.dap_command.specs.declared.command.Gate.{Gate}
use Rattle.dap_command.specs.declared.command.Gate.TheVariants as gate
use Rattle.dap_json.specs.declared.more.Member.{Member}
use Rattle.dap_body.specs.Beside.{beside}
use Rattle.dap_body.specs.Row.{Value, Row, flag_if_set, object_of, list_of, text, whole, integer, flag, tree, text_if_any, whole_if_any, tree_if_any}
use Rattle.dap_body.specs.declared.response.Breakpoint.{Breakpoint}
use Rattle.dap_body.specs.declared.response.Scope.{Scope}
use Rattle.dap_body.specs.declared.response.Source.{Source}
use Rattle.dap_body.specs.declared.response.StackFrame.{StackFrame}
use Rattle.dap_body.specs.declared.response.Thread.{Thread}
use Rattle.dap_body.specs.declared.response.Variable.{Variable}

-- ---- the objects of lists: their own fields, and these with what stands beside

abbrev pub breakpoint_fields : Breakpoint → Row
breakpoint_fields b = (codes "id", whole b.id) ∷ (codes "line", whole b.line) ∷ (codes "message", text_if_any b.message) ∷ (codes "verified", flag b.verified) ∷ []

abbrev pub breakpoint : Breakpoint → Row
breakpoint b = beside (breakpoint_fields b) b.more

abbrev pub thread_fields : Thread → Row
thread_fields t = (codes "id", integer t.id) ∷ (codes "name", text t.name) ∷ []

abbrev pub thread : Thread → Row
thread t = beside (thread_fields t) t.more

abbrev pub source_fields : Source → Row
source_fields s = (codes "name", text s.name) ∷ (codes "path", text_if_any s.path) ∷ (codes "sourceReference", whole_if_any s.source_reference) ∷ []

abbrev pub source : Source → Row
source s = beside (source_fields s) s.more

abbrev pub stack_frame_fields : StackFrame → Row
stack_frame_fields f =
    (codes "column", whole f.column) ∷ (codes "id", whole f.id) ∷ (codes "line", whole f.line) ∷ (codes "name", text f.name)
    ∷ (codes "source", tree_if_any (option_map (λ s. object_of (source s)) f.source)) ∷ []

abbrev pub stack_frame : StackFrame → Row
stack_frame f = beside (stack_frame_fields f) f.more

abbrev pub scope_fields : Scope → Row
scope_fields s = (codes "expensive", flag false) ∷ (codes "name", text s.name) ∷ (codes "variablesReference", whole s.variables_reference) ∷ []

abbrev pub scope : Scope → Row
scope s = beside (scope_fields s) s.more

abbrev pub variable_fields : Variable → Row
variable_fields v = (codes "name", text v.name) ∷ (codes "value", text v.value) ∷ (codes "variablesReference", whole v.variables_reference) ∷ []

abbrev pub variable : Variable → Row
variable v = beside (variable_fields v) v.more

-- ---- what is offered

abbrev pub flag_fields : Capabilities → List Gate → Row
flag_fields c gates = map (λ g. (flag_of g, flag_if_set (has c g))) gates

-- in the byte order of their flags
abbrev pub all_gates : List Gate
all_gates = gate.BreakpointLocations ∷ gate.Cancel ∷ gate.Completions ∷ gate.ConfigurationDone ∷ gate.ExceptionInfo ∷ gate.FunctionBreakpoints ∷ gate.LoadedSources ∷ gate.Modules ∷ gate.Restart ∷ gate.SetVariable ∷ gate.StepBack ∷ gate.Terminate ∷ []

abbrev pub initialize_fields : Capabilities → Row
initialize_fields c =
    (codes "scopes", whole_if_any None) ∷ (codes "stackFrames", whole_if_any None)
    ∷ flag_fields c all_gates ++ (codes "variables", whole_if_any None) ∷ (codes "variablesReference", whole_if_any None) ∷ []

abbrev pub initialize_row : Capabilities → List Member → Row
initialize_row c more = beside (initialize_fields c) more

-- ---- the bodies

abbrev pub set_breakpoints_row : List Breakpoint → Row
set_breakpoints_row breakpoints = (codes "breakpoints", tree (list_of breakpoint breakpoints)) ∷ []

abbrev pub threads_row : List Thread → Row
threads_row threads = (codes "threads", tree (list_of thread threads)) ∷ []

abbrev pub continue_row : Row
continue_row = (codes "allThreadsContinued", flag true) ∷ []

-- `totalFrames` counts all frames of the thread, not only those of the list
abbrev pub stack_trace_row : List StackFrame → ℕ → Row
stack_trace_row frames total = (codes "stackFrames", tree (list_of stack_frame frames)) ∷ (codes "totalFrames", whole total) ∷ []

abbrev pub scopes_row : List Scope → Row
scopes_row scopes = (codes "scopes", tree (list_of scope scopes)) ∷ []

abbrev pub variables_row : List Variable → Row
variables_row variables = (codes "variables", tree (list_of variable variables)) ∷ []

abbrev pub evaluate_fields : List ℕ → ℕ → Row
evaluate_fields result reference =
    (codes "result", text result) ∷ (codes "scopes", whole_if_any None) ∷ (codes "stackFrames", whole_if_any None) ∷ (codes "variables", whole_if_any None)
    ∷ (codes "variablesReference", whole reference) ∷ []

abbrev pub evaluate_row : List ℕ → ℕ → List Member → Row
evaluate_row result reference more = beside (evaluate_fields result reference) more

abbrev pub source_row : List ℕ → Row
source_row content = (codes "content", text content) ∷ []

abbrev pub loaded_sources_row : List Source → Row
loaded_sources_row sources = (codes "sources", tree (list_of source sources)) ∷ []

abbrev pub set_variable_fields : List ℕ → Row
set_variable_fields value =
    (codes "scopes", whole_if_any None) ∷ (codes "stackFrames", whole_if_any None) ∷ (codes "value", text value) ∷ (codes "variables", whole_if_any None)
    ∷ (codes "variablesReference", whole_if_any None) ∷ []

abbrev pub set_variable_row : List ℕ → List Member → Row
set_variable_row value more = beside (set_variable_fields value) more

-- a client's
abbrev pub run_in_terminal_row : Option ℕ → Option ℕ → Row
run_in_terminal_row process shell = (codes "processId", whole_if_any process) ∷ (codes "shellProcessId", whole_if_any shell) ∷ []

-- ---- as objects

abbrev pub initialize_body : Capabilities → List Member → Data
initialize_body c more = object_of (initialize_row c more)

-- what an adapter offers, as the body of its response
abbrev pub offer_body : Offer → Data
offer_body o = initialize_body (gates_of o) o.more

abbrev pub set_breakpoints_body : List Breakpoint → Data
set_breakpoints_body breakpoints = object_of (set_breakpoints_row breakpoints)

abbrev pub threads_body : List Thread → Data
threads_body threads = object_of (threads_row threads)

abbrev pub continue_body : Data
continue_body = object_of continue_row

abbrev pub stack_trace_body : List StackFrame → ℕ → Data
stack_trace_body frames total = object_of (stack_trace_row frames total)

abbrev pub scopes_body : List Scope → Data
scopes_body scopes = object_of (scopes_row scopes)

abbrev pub variables_body : List Variable → Data
variables_body variables = object_of (variables_row variables)

abbrev pub evaluate_body : List ℕ → ℕ → List Member → Data
evaluate_body result reference more = object_of (evaluate_row result reference more)

abbrev pub source_body : List ℕ → Data
source_body content = object_of (source_row content)

abbrev pub loaded_sources_body : List Source → Data
loaded_sources_body sources = object_of (loaded_sources_row sources)

abbrev pub set_variable_body : List ℕ → List Member → Data
set_variable_body value more = object_of (set_variable_row value more)

abbrev pub run_in_terminal_body : Option ℕ → Option ℕ → Data
run_in_terminal_body process shell = object_of (run_in_terminal_row process shell)

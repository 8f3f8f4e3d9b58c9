-- The answers to the requests that ask for what the debuggee shows.
-- Specification, "ThreadsResponse", "StackTraceResponse", "ScopesResponse", "VariablesResponse", "EvaluateResponse", "SourceResponse", "LoadedSourcesResponse" and "Types". Which of what they may say is said, is this profile's choice.
use Rattle.std.specs.Prelude.{ℕ, ◌+◌, ◌-◌, ◌&&◌, List, [], ◌∷◌, length, map, Option, Some, None, is_some, option_map, option_and_then, unwrap_or, Result, Ok, Err, if◌then◌else◌}
use Rattle.std.specs.List.{slice_get, zip, range_with_len}
use Rattle.serde_json.specs.Data.{Data}
use Rattle.dap_tables.specs.declared.target.Target.{Target}
use Rattle.dap_body.specs.ResponseBody.{threads_body, stack_trace_body, scopes_body, variables_body, evaluate_body, source_body, loaded_sources_body}
use Rattle.dap_call.specs.declared.call.Call.{Call}
use Rattle.dap_call.specs.declared.call.Call.TheVariants as call
use Rattle.dap_body.specs.declared.failure.Failure.{Failure}
use Rattle.dap_body.specs.declared.failure.Failure.TheVariants.{Debuggee}
use Rattle.dap_body.specs.declared.response.Thread.{Thread as ThreadBody}
use Rattle.dap_body.specs.declared.response.StackFrame.{StackFrame}
use Rattle.dap_body.specs.declared.response.Scope.{Scope as ScopeBody}
use Rattle.dap_body.specs.declared.response.Variable.{Variable as VariableBody}
use Rattle.dap_body.specs.declared.response.Source.{Source as SourceBody}
use Rattle.dap_debuggee.specs.Shown.{Shown, window}
use Rattle.dap_debuggee.specs.declared.answers.Thread.{Thread}
use Rattle.dap_debuggee.specs.declared.answers.Frame.{Frame}
use Rattle.dap_debuggee.specs.declared.answers.Scope.{Scope}
use Rattle.dap_debuggee.specs.declared.answers.Variable.{Variable}
use Rattle.dap_debuggee.specs.declared.answers.Evaluation.{Evaluation}
use Rattle.dap_debuggee.specs.declared.answers.Source.{Source}
use Rattle.dap_query.specs.declared.options.Options.{Options}
use Rattle.dap_query.specs.References.{intern_each, targets_named, and_then}
use Rattle.dap_tables.specs.References.{LiveReferences, frame_of, holder_of}
use Rattle.dap_query.specs.Queries.{QueryState, object_of}

-- what is told: the body, what its references name, and the references that are live then
pub record QueryAnswer : Type 0 where
  pub body : Option Data
  pub names : List Target
  pub references : LiveReferences

abbrev pub QueryResult : Type 0
QueryResult = Result QueryAnswer Failure

-- a body without references
abbrev pub result_without_references : QueryState → Option Data → QueryResult
result_without_references q body = Ok (record { body = body; names = []; references = q.references })

-- what the debuggee refuses to tell
abbrev pub unless_refused : {A : Type 0} → Option A → (A → QueryResult) → QueryResult
unless_refused None tell = Err Debuggee
unless_refused (Some x) tell = tell x

-- a body with a number for each of these objects
abbrev pub result_with_references : QueryState → List (Option Target) → (List ℕ → Data) → QueryResult
result_with_references q objects body = and_then (intern_each q.limits objects q.references) (λ given. Ok (record { body = Some (body given.0); names = targets_named objects; references = given.1 }))

-- ---- lines, columns and parts of lists

-- a line as the client counts it
abbrev pub line_shown : Options → ℕ → ℕ
line_shown options line = if options.lines_start_at_1 then line else line - 1

abbrev pub column_shown : Options → ℕ
column_shown options = if options.columns_start_at_1 then 1 else 0

-- ---- what bodies are made of

abbrev pub protocol_thread : Thread → ThreadBody
protocol_thread t = record { id = t.id; name = t.name; more = t.more }

-- a file that the client reads by its path has none
abbrev pub reference_of : ℕ → Source → Option ℕ
reference_of number source = if source.on_disk && is_some source.path then None else Some number

abbrev pub numbered_source : ℕ → Source → SourceBody
numbered_source number source = record { name = source.name; path = source.path; source_reference = reference_of number source; more = source.more }

-- each with its number, from 1
abbrev pub protocol_sources : List Source → List SourceBody
protocol_sources sources = map (λ p. numbered_source p.0 p.1) (zip (range_with_len 1 (length sources)) sources)

-- the source at this index
abbrev pub protocol_source : ℕ → Source → SourceBody
protocol_source index source = numbered_source (index + 1) source

-- at an index past the sources, which no frame has
abbrev pub no_source : SourceBody
no_source = record { name = []; path = None; source_reference = Some 0; more = [] }

abbrev pub source_of_frame : List Source → ℕ → SourceBody
source_of_frame sources index = unwrap_or (option_map (protocol_source index) (slice_get sources index)) no_source

-- where it has one
abbrev pub optional_source_of_frame : List Source → Option ℕ → Option SourceBody
optional_source_of_frame sources source = option_map (source_of_frame sources) source

-- a frame without a source has line 0 and column 0: Specification, "StackFrame"
abbrev pub line_in : Options → Option SourceBody → ℕ → ℕ
line_in options None line = 0
line_in options (Some source) line = line_shown options line

abbrev pub column_in : Options → Option SourceBody → ℕ
column_in options None = 0
column_in options (Some source) = column_shown options

abbrev pub frame_with : Options → ℕ → Frame → Option SourceBody → StackFrame
frame_with options id f source = record { id = id; name = f.name; source = source; line = line_in options source f.line; column = column_in options source; more = f.more }

abbrev pub protocol_frame : Options → List Source → ℕ → Frame → StackFrame
protocol_frame options sources id f = frame_with options id f (optional_source_of_frame sources f.source)

abbrev pub protocol_scope : ℕ → Scope → ScopeBody
protocol_scope number scope = record { name = scope.name; variables_reference = number; more = scope.more }

abbrev pub protocol_variable : ℕ → Variable → VariableBody
protocol_variable number variable = record { name = variable.name; value = variable.value; variables_reference = number; more = variable.more }

-- each with its number
abbrev pub with_numbers : {A B : Type 0} → (ℕ → A → B) → List ℕ → List A → List B
with_numbers told ns xs = map (λ p. told p.0 p.1) (zip ns xs)

abbrev pub number_in : List ℕ → ℕ
number_in [] = 0
number_in (n ∷ ns) = n

-- ---- the objects that answers name, in order

abbrev pub frame_objects : List Frame → List (Option Target)
frame_objects frames = map (λ (f : Frame). Some (frame_of f.object)) frames

abbrev pub scope_objects : List Scope → List (Option Target)
scope_objects scopes = map (λ (x : Scope). Some (holder_of x.holder)) scopes

abbrev pub variable_objects : List Variable → List (Option Target)
variable_objects variables = map (λ (x : Variable). option_map holder_of x.holder) variables

abbrev pub value_objects : Evaluation → List (Option Target)
value_objects value = option_map holder_of value.holder ∷ []

-- ---- the answers

abbrev pub stack_trace_result : Shown → QueryState → ℕ → List Frame → QueryResult
stack_trace_result view q total shown_frames =
    result_with_references q (frame_objects shown_frames) (λ ids. stack_trace_body (with_numbers (protocol_frame q.options view.sources) ids shown_frames) total)

abbrev pub scopes_result : QueryState → List Scope → QueryResult
scopes_result q scopes = result_with_references q (scope_objects scopes) (λ numbers. scopes_body (with_numbers protocol_scope numbers scopes))

abbrev pub variables_result : QueryState → List Variable → QueryResult
variables_result q variables = result_with_references q (variable_objects variables) (λ numbers. variables_body (with_numbers protocol_variable numbers variables))

abbrev pub evaluate_result : QueryState → Evaluation → QueryResult
evaluate_result q value = result_with_references q (value_objects value) (λ numbers. evaluate_body value.value (number_in numbers) value.more)

-- only a client that pages variables gets a part of them
abbrev pub page : Options → ℕ → ℕ → List Variable → List Variable
page options start count variables = if options.supports_variable_paging then window start count variables else variables

-- what a call is told; one that tells nothing succeeds without a body
unfoldable pub query_result : Shown → QueryState → Call → QueryResult
query_result view q call.Threads = result_without_references q (Some (threads_body (map protocol_thread view.threads)))
query_result view q (call.StackTrace asked) =
    unless_refused (view.frames asked.thread_id) (λ frames. stack_trace_result view q (length frames) (window asked.start_frame asked.levels frames))
query_result view q (call.Scopes number) = unless_refused (option_and_then view.scopes (object_of q.references number)) (scopes_result q)
query_result view q (call.Variables asked) =
    unless_refused (option_and_then view.children (object_of q.references asked.variables_reference)) (λ variables. variables_result q (page q.options asked.start asked.count variables))
query_result view q (call.Evaluate asked) =
    unless_refused (view.evaluate (option_and_then (object_of q.references) asked.frame_id) asked.expression) (evaluate_result q)
query_result view q (call.Source number) = unless_refused (view.content (number - 1)) (λ text. result_without_references q (Some (source_body text)))
query_result view q call.LoadedSources = result_without_references q (Some (loaded_sources_body (protocol_sources view.sources)))
query_result view q _ = result_without_references q None

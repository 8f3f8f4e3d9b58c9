-- What is read of a body, or what is at fault first: the list before what stands beside it, its elements in order.
-- Specification, "ThreadsResponse", "StackTraceResponse", "ScopesResponse", "VariablesResponse", "SetBreakpointsResponse",
-- "LoadedSourcesResponse", "EvaluateResponse", "SetVariableResponse" and "SourceResponse".
use Rattle.std.specs.Prelude.{◌≡◌, ℕ, suc, List, [], ◌∷◌, Option, map, Result, Ok, Err}
use Rattle.serde_json.specs.Data.{Data, Items, no_items, item}
use Rattle.serde_json.specs.Find.{as_str, as_array}
use Rattle.dap_json.specs.Steps.{◌>>=◌, Returns}
use Rattle.dap_command.specs.Numbers.{seq_of}
use Rattle.dap_body.specs.At.{Read, required_at, optional_at}
use Rattle.dap_body.specs.Elements.{ThreadParts, StackFrameParts, ScopeParts, VariableParts, BreakpointParts, SourceParts, EvaluationParts, thread_of, stack_frame_of, scope_of, variable_of, breakpoint_of, source_in, evaluation_of}
use Rattle.dap_body.specs.Lent.{stack_frame_parts}
use Rattle.dap_body.specs.declared.key.BodyKey.TheVariants as key
use Rattle.dap_body.specs.declared.fault.ViewFault.{ViewFault}
use Rattle.dap_body.specs.declared.fault.ViewFault.TheVariants.{OutOfMemory, Body, Element}
use Rattle.dap_body.specs.declared.view.StackTrace.{StackTrace}

-- what is read, or what is at fault
abbrev pub Viewed : Type 0 → Type 0
Viewed A = Result A ViewFault

abbrev pub in_body : {A : Type 0} → Read A → Viewed A
in_body (Ok x) = Ok x
in_body (Err key) = Err (Body key)

abbrev pub in_element : {A : Type 0} → ℕ → Read A → Viewed A
in_element index (Ok x) = Ok x
in_element index (Err key) = Err (Element index key)

-- the elements from this place on
abbrev pub each : {A : Type 0} → (Data → Read A) → ℕ → Items → Viewed (List A)
each read index no_items = Ok []
each read index (item d ds) = do
  x ← in_element index (read d)
  xs ← each read (suc index) ds
  Ok (x ∷ xs)

abbrev pub list_at : {A : Type 0} → (Data → Read A) → Read Items → Viewed (List A)
list_at read found = do
  items ← in_body found
  each read 0 items

-- ---- bodies

unfoldable pub threads_in : Data → Viewed (List ThreadParts)
threads_in body = list_at thread_of (required_at as_array key.Threads body)

unfoldable pub stack_frames_in : Data → Viewed (List StackFrameParts)
stack_frames_in body = list_at stack_frame_of (required_at as_array key.StackFrames body)

unfoldable pub scopes_in : Data → Viewed (List ScopeParts)
scopes_in body = list_at scope_of (required_at as_array key.Scopes body)

unfoldable pub variables_in : Data → Viewed (List VariableParts)
variables_in body = list_at variable_of (required_at as_array key.Variables body)

unfoldable pub breakpoints_in : Data → Viewed (List BreakpointParts)
breakpoints_in body = list_at breakpoint_of (required_at as_array key.Breakpoints body)

unfoldable pub sources_in : Data → Viewed (List SourceParts)
sources_in body = list_at source_in (required_at as_array key.Sources body)

pub record StackTraceParts : Type 0 where
  pub stack_frames : List StackFrameParts
  pub total_frames : Option ℕ

unfoldable pub stack_trace_in : Data → Viewed StackTraceParts
stack_trace_in body = do
  frames ← stack_frames_in body
  total ← in_body (optional_at seq_of key.TotalFrames body)
  Ok (record { stack_frames = frames; total_frames = total })

abbrev pub evaluation_in : Data → Viewed EvaluationParts
evaluation_in body = in_body (evaluation_of body)

abbrev pub value_in : Data → Viewed (List ℕ)
value_in body = in_body (required_at as_str key.Value body)

abbrev pub content_in : Data → Viewed (List ℕ)
content_in body = in_body (required_at as_str key.Content body)

-- ---- what a function gives of it

abbrev pub Says : {A : Type 0} → ViewFault → Viewed A → Type 0
Says OutOfMemory viewed = Unit {0}
Says (Body key) viewed = viewed ≡ Err (Body key)
Says (Element index key) viewed = viewed ≡ Err (Element index key)

-- what a function returned, seen so, is what is read, unless memory ran out
abbrev pub Gives : {A B : Type 0} → (A → B) → Result A ViewFault → Viewed B → Type 0
Gives seen result viewed = Returns seen Says result viewed

abbrev pub stack_trace_parts : StackTrace → StackTraceParts
stack_trace_parts t = record { stack_frames = map stack_frame_parts t.stack_frames.items; total_frames = t.total_frames }

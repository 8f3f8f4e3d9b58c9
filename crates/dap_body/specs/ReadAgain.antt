-- What dap_body writes of a response is read again as it was: each element, in order, with each of its own members.
-- Which numbers are written so is this profile's choice: those in the ranges in which they are read.
use Rattle.std.specs.Prelude.{◌≡◌, ℕ, map, ◌&&◌, Bool, true, false, nat_le, Option, Some, None, option_map, unwrap_or, Ok}
use Rattle.std.specs.List.{list_all}
use Rattle.dap_json.specs.Field.{max_seq}
use Rattle.dap_command.specs.Numbers.{is_int, max_number}
use Rattle.dap_command.specs.Capabilities.{offered_by}
use Rattle.dap_body.specs.Body.{data_of}
use Rattle.dap_body.specs.declared.body.Body.{Body}
use Rattle.dap_body.specs.declared.body.Body.TheVariants as body
use Rattle.dap_body.specs.declared.response.Breakpoint.{Breakpoint}
use Rattle.dap_body.specs.declared.response.Scope.{Scope}
use Rattle.dap_body.specs.declared.response.Source.{Source}
use Rattle.dap_body.specs.declared.response.StackFrame.{StackFrame}
use Rattle.dap_body.specs.declared.response.Thread.{Thread}
use Rattle.dap_body.specs.declared.response.Variable.{Variable}
use Rattle.dap_body.specs.Elements.{ThreadParts, SourceParts, StackFrameParts, ScopeParts, VariableParts, BreakpointParts}
use Rattle.dap_body.specs.View.{threads_in, stack_trace_in, scopes_in, variables_in, breakpoints_in, sources_in, evaluation_in, value_in, content_in}

-- ---- what is written, as it is read

abbrev pub thread_read : Thread → ThreadParts
thread_read t = record { id = t.id; name = t.name }

abbrev pub source_read : Source → SourceParts
source_read s = record { name = Some s.name; path = s.path; source_reference = unwrap_or s.source_reference 0 }

abbrev pub stack_frame_read : StackFrame → StackFrameParts
stack_frame_read f = record { id = f.id; name = f.name; line = f.line; column = f.column; source = option_map source_read f.source }

abbrev pub scope_read : Scope → ScopeParts
scope_read s = record { name = s.name; variables_reference = s.variables_reference; expensive = false }

abbrev pub variable_read : Variable → VariableParts
variable_read v = record { name = v.name; value = v.value; variables_reference = v.variables_reference }

abbrev pub breakpoint_read : Breakpoint → BreakpointParts
breakpoint_read b = record { id = Some b.id; verified = b.verified; line = Some b.line; message = b.message }

-- ---- whether its numbers are in their ranges

abbrev pub is_number : ℕ → Bool
is_number n = nat_le n max_number

abbrev pub is_whole : ℕ → Bool
is_whole n = nat_le n max_seq

abbrev pub thread_fits : Thread → Bool
thread_fits t = is_int t.id

abbrev pub source_fits : Source → Bool
source_fits s = is_number (unwrap_or s.source_reference 0)

-- where there is one
abbrev pub optional_source_fits : Option Source → Bool
optional_source_fits None = true
optional_source_fits (Some s) = source_fits s

abbrev pub stack_frame_fits : StackFrame → Bool
stack_frame_fits f = (is_number f.id && is_number f.line) && (is_number f.column && optional_source_fits f.source)

abbrev pub scope_fits : Scope → Bool
scope_fits s = is_number s.variables_reference

abbrev pub variable_fits : Variable → Bool
variable_fits v = is_number v.variables_reference

abbrev pub breakpoint_fits : Breakpoint → Bool
breakpoint_fits b = is_whole b.id && is_number b.line

-- ---- the law, of each body that is read here

abbrev pub IsReadAgain : Body → Type 0
IsReadAgain (body.Initialize capabilities more) = offered_by (Some (data_of (body.Initialize capabilities more))) ≡ capabilities
IsReadAgain (body.Threads threads) = list_all thread_fits threads.items ≡ true → threads_in (data_of (body.Threads threads)) ≡ Ok (map thread_read threads.items)
IsReadAgain (body.StackTrace frames total) = list_all stack_frame_fits frames.items ≡ true → is_whole total ≡ true
    → stack_trace_in (data_of (body.StackTrace frames total)) ≡ Ok (record { stack_frames = map stack_frame_read frames.items; total_frames = Some total })
IsReadAgain (body.Scopes scopes) = list_all scope_fits scopes.items ≡ true → scopes_in (data_of (body.Scopes scopes)) ≡ Ok (map scope_read scopes.items)
IsReadAgain (body.Variables variables) = list_all variable_fits variables.items ≡ true → variables_in (data_of (body.Variables variables)) ≡ Ok (map variable_read variables.items)
IsReadAgain (body.SetBreakpoints breakpoints) = list_all breakpoint_fits breakpoints.items ≡ true → breakpoints_in (data_of (body.SetBreakpoints breakpoints)) ≡ Ok (map breakpoint_read breakpoints.items)
IsReadAgain (body.Evaluate text reference more) = is_number reference ≡ true → evaluation_in (data_of (body.Evaluate text reference more)) ≡ Ok (record { result = text; variables_reference = reference })
IsReadAgain (body.SetVariable value more) = value_in (data_of (body.SetVariable value more)) ≡ Ok value
IsReadAgain (body.Source content) = content_in (data_of (body.Source content)) ≡ Ok content
IsReadAgain body.Continue = Unit {0}
IsReadAgain (body.LoadedSources sources) = list_all source_fits sources.items ≡ true → sources_in (data_of (body.LoadedSources sources)) ≡ Ok (map source_read sources.items)
IsReadAgain (body.RunInTerminal process shell) = Unit {0}

abbrev pub WhatIsWrittenIsReadAgain : Type 0
WhatIsWrittenIsReadAgain = (b : Body) → IsReadAgain b

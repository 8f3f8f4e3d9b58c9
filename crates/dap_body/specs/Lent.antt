-- What is in the objects that are lent.
use Rattle.std.specs.Prelude.{option_map}
use Rattle.dap_body.specs.Elements.{ThreadParts, SourceParts, StackFrameParts, ScopeParts, VariableParts, BreakpointParts, EvaluationParts}
use Rattle.dap_body.specs.declared.elements.Thread.{Thread}
use Rattle.dap_body.specs.declared.elements.Source.{Source}
use Rattle.dap_body.specs.declared.elements.StackFrame.{StackFrame}
use Rattle.dap_body.specs.declared.elements.Scope.{Scope}
use Rattle.dap_body.specs.declared.elements.Variable.{Variable}
use Rattle.dap_body.specs.declared.elements.Breakpoint.{Breakpoint}
use Rattle.dap_body.specs.declared.elements.Evaluation.{Evaluation}

abbrev pub thread_parts : Thread → ThreadParts
thread_parts t = record { id = t.id; name = t.name.now }

abbrev pub source_parts : Source → SourceParts
source_parts s = record { name = option_map (λ text. text.now) s.name; path = option_map (λ text. text.now) s.path; source_reference = s.source_reference }

abbrev pub stack_frame_parts : StackFrame → StackFrameParts
stack_frame_parts f = record { id = f.id; name = f.name.now; line = f.line; column = f.column; source = option_map source_parts f.source }

abbrev pub scope_parts : Scope → ScopeParts
scope_parts s = record { name = s.name.now; variables_reference = s.variables_reference; expensive = s.expensive }

abbrev pub variable_parts : Variable → VariableParts
variable_parts v = record { name = v.name.now; value = v.value.now; variables_reference = v.variables_reference }

abbrev pub breakpoint_parts : Breakpoint → BreakpointParts
breakpoint_parts b = record { id = b.id; verified = b.verified; line = b.line; message = option_map (λ text. text.now) b.message }

abbrev pub evaluation_parts : Evaluation → EvaluationParts
evaluation_parts e = record { result = e.result.now; variables_reference = e.variables_reference }

-- The references that the bodies of responses give are the numbers that these were built with, and no other.
-- Specification, "StackTraceResponse", "ScopesResponse", "VariablesResponse", "EvaluateResponse", "SetVariableResponse".
use Rattle.std.specs.Prelude.{◌≡◌, ℕ, List, [], ◌∷◌, map, filter, ◌&&◌, nat_le}
use Rattle.dap_json.specs.declared.more.Member.{Member}
use Rattle.dap_command.specs.declared.capabilities.Capabilities.{Capabilities}
use Rattle.dap_command.specs.GivenReferences.{frame_ids, holders_of}
use Rattle.dap_command.specs.declared.command.Command.TheVariants.{Scopes, Variables, Evaluate, SetVariable}
use Rattle.dap_body.specs.ResponseBody.{initialize_body, stack_trace_body, scopes_body, variables_body, set_variable_body, evaluate_body}
use Rattle.dap_body.specs.declared.response.Scope.{Scope}
use Rattle.dap_body.specs.declared.response.StackFrame.{StackFrame}
use Rattle.dap_body.specs.declared.response.Variable.{Variable}

-- those that a reader takes for references: of `least` to 2147483647
abbrev pub references_among : ℕ → List ℕ → List ℕ
references_among least ns = filter (λ n. nat_le least n && nat_le n 2147483647) ns

pub record BodiesGiveTheirNumbers : Type 0 where
  -- read as that of any command, none
  pub initialize : (capabilities : Capabilities) (more : List Member) → (frame_ids (initialize_body capabilities more) ≡ []) × (holders_of Scopes (initialize_body capabilities more) ≡ []) × (holders_of Variables (initialize_body capabilities more) ≡ []) × (holders_of Evaluate (initialize_body capabilities more) ≡ [])
  pub stack_trace : (frames : List StackFrame) (total : ℕ) → frame_ids (stack_trace_body frames total) ≡ references_among 0 (map (λ f. f.id) frames)
  pub scopes : (scopes : List Scope) → holders_of Scopes (scopes_body scopes) ≡ references_among 1 (map (λ s. s.variables_reference) scopes)
  pub variables : (variables : List Variable) → holders_of Variables (variables_body variables) ≡ references_among 1 (map (λ v. v.variables_reference) variables)
  pub evaluate : (result : List ℕ) (reference : ℕ) (more : List Member) → holders_of Evaluate (evaluate_body result reference more) ≡ references_among 1 (reference ∷ [])
  -- and, read as that of stackTrace, scopes or variables, none
  pub evaluate_elsewhere : (result : List ℕ) (reference : ℕ) (more : List Member) → (frame_ids (evaluate_body result reference more) ≡ []) × (holders_of Scopes (evaluate_body result reference more) ≡ []) × (holders_of Variables (evaluate_body result reference more) ≡ [])
  pub set_variable : (value : List ℕ) (more : List Member) → holders_of SetVariable (set_variable_body value more) ≡ []
  pub set_variable_elsewhere : (value : List ℕ) (more : List Member) → (frame_ids (set_variable_body value more) ≡ []) × (holders_of Scopes (set_variable_body value more) ≡ []) × (holders_of Variables (set_variable_body value more) ≡ [])

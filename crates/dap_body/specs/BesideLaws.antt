-- What stands beside a row's own fields, and that these are as they were.
use Rattle.std.specs.Prelude.{◌≡◌, codes, ℕ, ℤ, List, [], ◌∷◌, Bool, true, false, ◌||◌}
use Rattle.std.specs.Ordering.{nat_cmp, match_ordering}
use Rattle.std.specs.Cmp.Lexicographic.{slice_cmp}
use Rattle.serde_json.specs.Find.{get}
use Rattle.dap_json.specs.More.{object_with, are_more}
use Rattle.dap_json.specs.declared.more.Member.{Member}
use Rattle.dap_body.specs.Beside.{beside, fit_members}
use Rattle.dap_body.specs.EventBody.{output_body, output_fields, stopped_body, stopped_fields}
use Rattle.dap_body.specs.Row.{Row, is_in_order, object_of, text, whole}
use Rattle.dap_body.specs.ResponseBody.{breakpoint_fields, thread_fields, source_fields, stack_frame_fields, scope_fields, variable_fields, evaluate_fields, evaluate_body, set_variable_fields, set_variable_body, initialize_fields, initialize_body}
use Rattle.dap_body.specs.declared.response.Breakpoint.{Breakpoint}
use Rattle.dap_command.specs.Capabilities.{capabilities_data}
use Rattle.dap_command.specs.declared.capabilities.Capabilities.{Capabilities}
use Rattle.dap_body.specs.declared.response.Scope.{Scope}
use Rattle.dap_body.specs.declared.response.Source.{Source}
use Rattle.dap_body.specs.declared.response.StackFrame.{StackFrame}
use Rattle.dap_body.specs.declared.response.Thread.{Thread}
use Rattle.dap_body.specs.declared.response.Variable.{Variable}

-- one of a row's own, also where it is absent
abbrev pub is_own : List ℕ → Row → Bool
is_own key [] = false
is_own key (field ∷ row) = match_ordering (slice_cmp nat_cmp key field.0) false true false || is_own key row

-- Of a row in the order of keys, and of members that can stand beside others.
pub record MoreIsBeside : Type 0 where
  -- with none, it is as it was
  pub none : (row : Row) → beside row [] ≡ row
  -- each of its own is as it was
  pub own : (row : Row) (more : List Member) (key : List ℕ) → is_in_order row ≡ true → is_own key row ≡ true → get key (object_of (beside row more)) ≡ get key (object_of row)
  -- members that can are all there
  pub fit : (more : List Member) → are_more more ≡ true → fit_members more ≡ more
  -- each other is that of these
  pub others : (row : Row) (more : List Member) (key : List ℕ) → is_in_order row ≡ true → is_own key row ≡ false → get key (object_of (beside row more)) ≡ get key (object_with (fit_members more))
  -- all are in the order of keys
  pub order : (row : Row) (more : List Member) → is_in_order row ≡ true → is_in_order (beside row more) ≡ true

-- What a body has of its own is in the order of keys; with no members beside, it is as it would be without those that are never written.
pub record OwnFieldsAreInOrder : Type 0 where
  pub thread : (t : Thread) → is_in_order (thread_fields t) ≡ true
  pub source : (s : Source) → is_in_order (source_fields s) ≡ true
  pub stack_frame : (f : StackFrame) → is_in_order (stack_frame_fields f) ≡ true
  pub scope : (s : Scope) → is_in_order (scope_fields s) ≡ true
  pub variable : (v : Variable) → is_in_order (variable_fields v) ≡ true
  pub breakpoint : (b : Breakpoint) → is_in_order (breakpoint_fields b) ≡ true
  pub evaluate : (result : List ℕ) (reference : ℕ) → is_in_order (evaluate_fields result reference) ≡ true
  pub set_variable : (value : List ℕ) → is_in_order (set_variable_fields value) ≡ true
  pub output : (category output : List ℕ) → is_in_order (output_fields category output) ≡ true
  pub stopped : (reason : List ℕ) (thread : ℤ) → is_in_order (stopped_fields reason thread) ≡ true
  pub initialize : (c : Capabilities) → is_in_order (initialize_fields c) ≡ true
  pub initialize_alone : (c : Capabilities) → initialize_body c [] ≡ capabilities_data c
  pub evaluate_alone : (result : List ℕ) (reference : ℕ) → evaluate_body result reference [] ≡ object_of ((codes "result", text result) ∷ (codes "variablesReference", whole reference) ∷ [])
  pub set_variable_alone : (value : List ℕ) → set_variable_body value [] ≡ object_of ((codes "value", text value) ∷ [])
  pub output_alone : (category output : List ℕ) → output_body category output [] ≡ object_of ((codes "category", text category) ∷ (codes "output", text output) ∷ [])
  pub stopped_alone : (reason : List ℕ) (thread : ℤ) → stopped_body reason thread [] ≡ object_of (stopped_fields reason thread)

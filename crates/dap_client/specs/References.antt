-- Which references a request uses, each with its kind.
-- Specification, "ScopesArguments", "VariablesArguments", "SetVariableArguments", "EvaluateArguments", "CompletionsArguments".
use Rattle.std.specs.Prelude.{ℕ, List, [], ◌∷◌, Bool, Option, Some, None}
use Rattle.std.specs.List.{list_all}
use Rattle.dap_call.specs.CallObjects.{object_named}
use Rattle.dap_call.specs.declared.call.Call.{Call}
use Rattle.dap_call.specs.declared.objects.CallObject.{CallObject}
use Rattle.dap_call.specs.declared.objects.CallObject.TheVariants.{Frame, Holder}
use Rattle.dap_tables.specs.declared.reference_kind.ReferenceKind.{ReferenceKind}
use Rattle.dap_tables.specs.Given.{frame, holder}
use Rattle.dap_tables.specs.Known.{has_pair}

-- absent, it uses none
abbrev pub optional_frame : Option ℕ → List (ReferenceKind × ℕ)
optional_frame None = []
optional_frame (Some n) = frame n ∷ []

abbrev pub references_in : CallObject → List (ReferenceKind × ℕ)
references_in (Frame number) = optional_frame number
references_in (Holder number) = holder number ∷ []
references_in _ = []

abbrev pub references_used_by : Call → List (ReferenceKind × ℕ)
references_used_by c = references_in (object_named c)

-- all that it uses is known, in its kind
abbrev pub are_known : Call → List (ReferenceKind × ℕ) → Bool
are_known c known = list_all (λ p. has_pair p known) (references_used_by c)

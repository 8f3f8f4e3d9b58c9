-- Which references a response gives, each with its kind.
-- Specification, the responses that `dap_call` names.
use Rattle.std.specs.Prelude.{ℕ, List, [], map, Option, Some, None}
use Rattle.serde_json.specs.Data.{Data}
use Rattle.dap_command.specs.GivenReferences.{frame_ids, numbers_given}
use Rattle.dap_command.specs.Objects.{given_objects}
use Rattle.dap_command.specs.declared.command.Command.{Command}
use Rattle.dap_command.specs.declared.objects.GivenObjects.{GivenObjects}
use Rattle.dap_command.specs.declared.objects.GivenObjects.TheVariants as gives
use Rattle.dap_tables.specs.declared.reference_kind.ReferenceKind.{ReferenceKind}
use Rattle.dap_tables.specs.declared.reference_kind.ReferenceKind.TheVariants.{Frame, Holder}

abbrev pub frame : ℕ → ReferenceKind × ℕ
frame n = (Frame, n)

abbrev pub holder : ℕ → ReferenceKind × ℕ
holder n = (Holder, n)

abbrev pub references_to : GivenObjects → Data → List (ReferenceKind × ℕ)
references_to gives.Frames body = map frame (frame_ids body)
references_to objects body = map holder (numbers_given objects body)

-- by the row of the command
abbrev pub references_given_by : Command → Data → List (ReferenceKind × ℕ)
references_given_by c body = references_to (given_objects c) body

-- the body of a success to a command that is known
abbrev pub references_given_in : Option Command → Option Data → List (ReferenceKind × ℕ)
references_given_in c None = []
references_given_in None (Some body) = []
references_given_in (Some c) (Some body) = references_given_by c body

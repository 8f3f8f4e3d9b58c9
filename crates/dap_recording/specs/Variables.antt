-- Variables: those of each holder by its number, and what a text comes to among them. This profile's choice.
use Rattle.std.specs.Prelude.{ℕ, nat_eq, nat_lt, List, [], ◌∷◌, Option, Some, None, option_map, option_and_then, unwrap_or, if◌then◌else◌}
use Rattle.dap_json.specs.declared.more.Member.{Member}
use Rattle.dap_debuggee.specs.Laws.{variable_named}
use Rattle.dap_debuggee.specs.declared.answers.Variable.{Variable}
use Rattle.dap_debuggee.specs.declared.answers.Evaluation.{Evaluation}
use Rattle.dap_debuggee.specs.declared.answers.Assigned.{Assigned}

-- ---- by holder

-- all variables of a holder
pub record OfHolder : Type 0 where
  pub holder : ℕ
  pub variables : List Variable

-- those of a holder, where it has some
abbrev pub variables_at : ℕ → List OfHolder → Option (List Variable)
variables_at holder [] = None
variables_at holder (c ∷ changed) = if nat_eq holder c.holder then Some c.variables else variables_at holder changed

-- in place of those that the holder has; the holders stand in the order of their numbers
abbrev pub with_variables : ℕ → List Variable → List OfHolder → List OfHolder
with_variables holder variables [] = record { holder = holder; variables = variables } ∷ []
with_variables holder variables (c ∷ changed) =
    if nat_lt holder c.holder then record { holder = holder; variables = variables } ∷ c ∷ changed
    else (if nat_eq holder c.holder then record { holder = c.holder; variables = variables } ∷ changed
    else c ∷ with_variables holder variables changed)

-- ---- what a text comes to

abbrev pub first_of : {A : Type 0} → Option A → Option A → Option A
first_of None other = other
first_of (Some x) other = Some x

abbrev pub evaluation : Variable → Evaluation
evaluation variable = record { value = variable.value; holder = variable.holder; more = variable.more }

-- the value of a variable is the text; what is said beside it stays, unless this is said
abbrev pub assigned_to : List ℕ → Option (List Member) → Variable → Assigned
assigned_to text said variable = record { value = text; more = unwrap_or said variable.more }

-- the same, where one of the variables has the name
abbrev pub assigned_of : List ℕ → List ℕ → Option (List Member) → Option (List Variable) → Option Assigned
assigned_of name text said variables = option_map (assigned_to text said) (option_and_then (variable_named name) variables)

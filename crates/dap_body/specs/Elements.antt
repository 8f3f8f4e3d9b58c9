-- What is read of the objects in bodies, or their first key at fault, in the order of the rows here.
-- Specification, "Thread", "Source", "StackFrame", "Scope", "Variable", "Breakpoint" and "EvaluateResponse".
-- This profile's choice: which optional properties are read; that a frame's `source` is at fault where anything in it is.
use Rattle.std.specs.Prelude.{ℕ, ℤ, List, Bool, Option, Some, None, Ok, Err}
use Rattle.serde_json.specs.Data.{Data}
use Rattle.serde_json.specs.Find.{as_str, as_bool}
use Rattle.dap_json.specs.Steps.{◌>>=◌}
use Rattle.dap_json.specs.Field.{object_of}
use Rattle.dap_json.specs.Numbers.{int_of, number_of, seq_of}
use Rattle.dap_json.specs.Property.{or_bad}
use Rattle.dap_body.specs.At.{Read, required_at, optional_at, optional_or}
use Rattle.dap_body.specs.declared.key.BodyKey.TheVariants as key

-- ---- what is in each

pub record ThreadParts : Type 0 where
  pub id : ℤ
  pub name : List ℕ

pub record SourceParts : Type 0 where
  pub name : Option (List ℕ)
  pub path : Option (List ℕ)
  pub source_reference : ℕ

pub record StackFrameParts : Type 0 where
  pub id : ℕ
  pub name : List ℕ
  pub line : ℕ
  pub column : ℕ
  pub source : Option SourceParts

pub record ScopeParts : Type 0 where
  pub name : List ℕ
  pub variables_reference : ℕ
  pub expensive : Bool

pub record VariableParts : Type 0 where
  pub name : List ℕ
  pub value : List ℕ
  pub variables_reference : ℕ

pub record BreakpointParts : Type 0 where
  pub id : Option ℕ
  pub verified : Bool
  pub line : Option ℕ
  pub message : Option (List ℕ)

pub record EvaluationParts : Type 0 where
  pub result : List ℕ
  pub variables_reference : ℕ

-- ---- rows

unfoldable pub thread_of : Data → Read ThreadParts
thread_of d = do
  id ← required_at int_of key.Id d
  name ← required_at as_str key.Name d
  Ok (record { id = id; name = name })

-- an object, or `source` is at fault
unfoldable pub source_in : Data → Read SourceParts
source_in d = do
  found ← or_bad key.Source (object_of d)
  name ← optional_at as_str key.Name found
  path ← optional_at as_str key.Path found
  reference ← optional_or number_of 0 key.SourceReference found
  Ok (record { name = name; path = path; source_reference = reference })

abbrev pub ok_of : {A : Type 0} → Read A → Option A
ok_of (Ok x) = Some x
ok_of (Err fault) = None

-- with nothing at fault in it
abbrev pub source_of : Data → Option SourceParts
source_of d = ok_of (source_in d)

unfoldable pub stack_frame_of : Data → Read StackFrameParts
stack_frame_of d = do
  id ← required_at number_of key.Id d
  name ← required_at as_str key.Name d
  line ← required_at number_of key.Line d
  column ← required_at number_of key.Column d
  source ← optional_at source_of key.Source d
  Ok (record { id = id; name = name; line = line; column = column; source = source })

unfoldable pub scope_of : Data → Read ScopeParts
scope_of d = do
  name ← required_at as_str key.Name d
  reference ← required_at number_of key.VariablesReference d
  expensive ← required_at as_bool key.Expensive d
  Ok (record { name = name; variables_reference = reference; expensive = expensive })

unfoldable pub variable_of : Data → Read VariableParts
variable_of d = do
  name ← required_at as_str key.Name d
  value ← required_at as_str key.Value d
  reference ← required_at number_of key.VariablesReference d
  Ok (record { name = name; value = value; variables_reference = reference })

unfoldable pub breakpoint_of : Data → Read BreakpointParts
breakpoint_of d = do
  id ← optional_at seq_of key.Id d
  verified ← required_at as_bool key.Verified d
  line ← optional_at number_of key.Line d
  message ← optional_at as_str key.Message d
  Ok (record { id = id; verified = verified; line = line; message = message })

unfoldable pub evaluation_of : Data → Read EvaluationParts
evaluation_of d = do
  text ← required_at as_str key.Result d
  reference ← required_at number_of key.VariablesReference d
  Ok (record { result = text; variables_reference = reference })

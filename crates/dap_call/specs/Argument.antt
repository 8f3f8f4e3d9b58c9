-- What stands at a key of a command's arguments, or the key that is bad.
-- Specification, the types whose names end in "Arguments": what type a property has, and whether it may be absent.
-- This profile's choice: that `null` counts as absent, and that one key is told, the first bad one
-- in the order of the command's row.
use Rattle.std.specs.Prelude.{◌≡◌, Option, Some, None, option_and_then, Result, Ok, Err}
use Rattle.serde_json.specs.Data.{Data, null, object}
use Rattle.dap_json.specs.Field.{tree_at}
pub use Rattle.dap_json.specs.Property.{ok_map as read_map, or_bad, in_shape}
use Rattle.dap_json.specs.Property.{required, in_shape_or}
use Rattle.dap_json.specs.Steps.{Returns}
use Rattle.dap_command.specs.Key.{text_of}
use Rattle.dap_command.specs.declared.key.Key.{Key}
use Rattle.dap_command.specs.declared.key.Key.TheVariants as key
use Rattle.dap_call.specs.declared.call.CallFault.{CallFault}
use Rattle.dap_call.specs.declared.call.CallFault.TheVariants.{BadArguments, OutOfMemory}

-- a value, or the first bad key
abbrev pub Read : Type 0 → Type 0
Read A = Result A Key

-- what a fault says of what the rows read: the first bad key, or nothing where memory ran out
abbrev pub Says : {A : Type 0} → CallFault → Read A → Type 0
Says (BadArguments key) read = read ≡ Err key
Says OutOfMemory read = Unit {0}

-- What a function returned is what the rows read, unless memory ran out.
abbrev pub Gives : {A : Type 0} → Result A CallFault → Read A → Type 0
Gives result read = Returns (λ x. x) Says result read

-- ---- keys

-- null counts as absent
abbrev pub value_at : Key → Option Data → Option Data
value_at k arguments = option_and_then (tree_at (text_of k)) arguments

-- the value at a key, which has to be there in this shape
abbrev pub required_at : {A : Type 0} → (Data → Option A) → Key → Option Data → Read A
required_at shape k arguments = required shape k (value_at k arguments)

-- the value at a key, which may be absent, but has this shape where it is there
abbrev pub optional_at : {A : Type 0} → (Data → Option A) → Key → Option Data → Read (Option A)
optional_at shape k arguments = in_shape shape k (value_at k arguments)

abbrev pub optional_or : {A : Type 0} → (Data → Option A) → A → Key → Option Data → Read A
optional_or shape default k arguments = in_shape_or shape default k (value_at k arguments)

-- ---- the whole

-- an object, or absent
abbrev pub may_be_absent : Option Data → Read (Option Data)
may_be_absent None = Ok None
may_be_absent (Some null) = Ok None
may_be_absent (Some (object ms)) = Ok (Some (object ms))
may_be_absent (Some _) = Err key.Arguments

-- an object
abbrev pub must_be_there : Option Data → Read (Option Data)
must_be_there (Some (object ms)) = Ok (Some (object ms))
must_be_there _ = Err key.Arguments

-- The references that the body of a response gives, in order.
-- Specification, "StackTraceResponse", "ScopesResponse", "VariablesResponse", "EvaluateResponse", "SetVariableResponse".
-- This profile's choice: the ranges of numbers, and that what has no number in its range is passed over.
use Rattle.std.specs.Prelude.{ℕ, List, [], ◌&&◌, nat_le, if◌then◌else◌, Option, Some, None, option_and_then}
use Rattle.std.specs.List.{cons_option}
use Rattle.serde_json.specs.Data.{Data, Items, no_items, item}
use Rattle.serde_json.specs.Find.{get, as_array}
use Rattle.serde_json.specs.View.{items_view}
use Rattle.serde_json.specs.declared.value.Value.{Value}
use Rattle.dap_json.specs.Field.{if_passes, whole_at}
use Rattle.dap_command.specs.Objects.{given_objects, member_of, number_key_of, least_of, are_frames}
use Rattle.dap_command.specs.declared.command.Command.{Command}
use Rattle.dap_command.specs.declared.objects.GivenObjects.{GivenObjects}
use Rattle.dap_command.specs.declared.objects.GivenObjects.TheVariants as gives

-- the whole number at a key, of `least` to 2147483647
abbrev pub reference_at : List ℕ → ℕ → Data → Option ℕ
reference_at key least d = if_passes (λ n. nat_le least n && nat_le n 2147483647) (whole_at key d)

-- of the items that have one
abbrev pub references_in : List ℕ → ℕ → Items → List ℕ
references_in key least no_items = []
references_in key least (item d ds) = cons_option (reference_at key least d) (references_in key least ds)

-- the items of an array, or none
abbrev pub or_none : Option Items → Items
or_none None = no_items
or_none (Some ds) = ds

abbrev pub items_at : List ℕ → Data → Items
items_at key d = or_none (option_and_then as_array (get key d))

-- at the member of this key
abbrev pub items_of_member : Option (List ℕ) → Data → Items
items_of_member None body = no_items
items_of_member (Some key) body = items_at key body

-- what has the numbers: the value that the body is, or each object of a list
abbrev pub given_items : GivenObjects → Data → Items
given_items gives.Value body = item body no_items
given_items objects body = items_of_member (member_of objects) body

abbrev pub numbers_given : GivenObjects → Data → List ℕ
numbers_given objects body = references_in (number_key_of objects) (least_of objects) (given_items objects body)

abbrev pub frame_ids : Data → List ℕ
frame_ids body = numbers_given gives.Frames body

-- of such objects those that are ids of frames, and those by which variables are asked for
abbrev pub as_frames : GivenObjects → List ℕ → List ℕ
as_frames objects numbers = if are_frames objects then numbers else []

abbrev pub as_holders : GivenObjects → List ℕ → List ℕ
as_holders objects numbers = if are_frames objects then [] else numbers

-- by the row of the command
abbrev pub frames_of : Command → Data → List ℕ
frames_of command body = as_frames (given_objects command) (numbers_given (given_objects command) body)

abbrev pub holders_of : Command → Data → List ℕ
holders_of command body = as_holders (given_objects command) (numbers_given (given_objects command) body)

-- the same, of values
abbrev pub references_of : List ℕ → ℕ → List Value → List ℕ
references_of key least values = references_in key least (items_view values)

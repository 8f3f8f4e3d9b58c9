-- The first fault of a value, where it is not of a shape: of the rows of an object in their order, of the elements of a list in
-- theirs. `null` counts as absent, keys that have no row may have any value, and of a message that is no request, no successful
-- response and no event nothing is asked: this profile's choice.
use Rattle.std.specs.Prelude.{ℕ, ◌+◌, List, [], ◌∷◌, Bool, true, false, ◌||◌, bytes_eq, if◌then◌else◌, Option, Some, None, is_some, option_map, option_and_then}
use Rattle.std.specs.List.{list_any}
use Rattle.std.specs.Ordering.{nat_cmp, match_ordering}
use Rattle.std.specs.Cmp.Lexicographic.{slice_cmp}
use Rattle.serde_json.specs.Data.{Num, unsigned, negative, float, Data, null, boolean, number, string, array, object, Items, no_items, item, Members, no_members, member}
use Rattle.serde_json.specs.Find.{as_bool, as_number, as_str}
use Rattle.dap_json.specs.Field.{is_null}
use Rattle.dap_envelope.specs.declared.message.Kind.{Kind as MessageKind}
use Rattle.dap_envelope.specs.declared.message.Kind.TheVariants.{Request, Response, Event, Other}
use Rattle.dap_shape.specs.Shapes.{Row, Fault, at_key, at_place, missing, misfit, inside}
use Rattle.dap_shape.specs.Rows.{fields_of, values_of, requests, responses, events}
use Rattle.dap_shape.specs.declared.shape.Scalar.{Scalar}
use Rattle.dap_shape.specs.declared.shape.Scalar.TheVariants.{Any, Text, Boolean, Whole, Number, WholeOrText, OneOf}
use Rattle.dap_shape.specs.declared.shape.Kind.{Kind}
use Rattle.dap_shape.specs.declared.shape.Kind.TheVariants.{Plain, Object}
use Rattle.dap_shape.specs.declared.shape.Shape.{Shape}
use Rattle.dap_shape.specs.declared.shape.Shape.TheVariants.{One, Each}

-- ---- values without parts

-- JSON writes it without a fraction and without an exponent
abbrev pub is_integer : Num → Bool
is_integer (unsigned n) = true
is_integer (negative z) = true
is_integer (float x) = false

abbrev pub is_whole : Data → Bool
is_whole d = is_some (option_and_then (λ n. if is_integer n then Some n else None) (as_number d))

abbrev pub is_among : List (List ℕ) → Option (List ℕ) → Bool
is_among texts None = false
is_among texts (Some text) = list_any (bytes_eq text) texts

abbrev pub is_of : Scalar → Data → Bool
is_of Any d = true
is_of Text d = is_some (as_str d)
is_of Boolean d = is_some (as_bool d)
is_of Whole d = is_whole d
is_of Number d = is_some (as_number d)
is_of WholeOrText d = is_whole d || is_some (as_str d)
is_of (OneOf choice) d = is_among (values_of choice) (as_str d)

-- a value that has not the parts that the shape asks for
abbrev pub bare_fault : Shape → Data → Option Fault
bare_fault (One (Plain scalar)) d = if is_of scalar d then None else Some (misfit (One (Plain scalar)))
bare_fault (One (Object name)) d = Some (misfit (One (Object name)))
bare_fault (Each kind) d = Some (misfit (Each kind))

-- ---- objects and lists

abbrev pub or_else : Option Fault → Option Fault → Option Fault
or_else None next = next
or_else (Some fault) next = Some fault

-- of a row, by what is found at its key: nothing, or a value with or without a fault
abbrev pub row_fault : Row → Option (Option Fault) → Option Fault
row_fault row None = if row.is_required then Some (missing row.key) else None
row_fault row (Some found) = option_map (inside (at_key row.key)) found

-- of rows, by what is found at a key where a shape is asked for
abbrev pub rows_fault : (List ℕ → Shape → Option (Option Fault)) → List Row → Option Fault
rows_fault found [] = None
rows_fault found (row ∷ rows) = or_else (row_fault row (found row.key row.shape)) (rows_fault found rows)

abbrev mutual
  pub fault_of : Shape → Data → Option Fault
  fault_of shape null = bare_fault shape null
  fault_of shape (boolean b) = bare_fault shape (boolean b)
  fault_of shape (number n) = bare_fault shape (number n)
  fault_of shape (string s) = bare_fault shape (string s)
  fault_of (One kind) (array ds) = bare_fault (One kind) (array ds)
  fault_of (Each kind) (array ds) = items_fault 0 kind ds
  fault_of (One (Plain scalar)) (object ms) = bare_fault (One (Plain scalar)) (object ms)
  fault_of (One (Object name)) (object ms) = rows_fault (λ key shape. member_fault key shape ms) (fields_of name)
  fault_of (Each kind) (object ms) = bare_fault (Each kind) (object ms)

  -- of elements, counted from n
  pub items_fault : ℕ → Kind → Items → Option Fault
  items_fault n kind no_items = None
  items_fault n kind (item d ds) = or_else (option_map (inside (at_place n)) (fault_of (One kind) d)) (items_fault (n + 1) kind ds)

  -- of what stands at a key, if something does
  pub member_fault : List ℕ → Shape → Members → Option (Option Fault)
  member_fault key shape no_members = None
  member_fault key shape (member name d ms) = match_ordering (slice_cmp nat_cmp key name) (member_fault key shape ms) (if is_null d then None else Some (fault_of shape d)) (member_fault key shape ms)

-- ---- messages

-- the row of this name
abbrev pub row_named : List (List ℕ × Row) → List ℕ → Option Row
row_named [] name = None
row_named (entry ∷ entries) name = if bytes_eq entry.0 name then Some entry.1 else row_named entries name

-- of what stands at the one key of a message that a row is for
abbrev pub held_fault : Option Row → Option Data → Option Fault
held_fault None held = None
held_fault (Some row) held = row_fault row (option_map (fault_of row.shape) held)

abbrev pub fault_in : MessageKind → Option Fault
fault_in (Request command arguments) = held_fault (row_named requests command) arguments
fault_in (Response request_seq success command message body) = if success then held_fault (row_named responses command) body else None
fault_in (Event event body) = held_fault (row_named events event) body
fault_in (Other tag) = None

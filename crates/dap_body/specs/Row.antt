-- An object as it is written: a row of fields, in the byte order of their keys.
-- Specification, "Types": what type a property has, and whether it may be absent. The order of keys is this profile's choice.
use Rattle.std.specs.Prelude.{ℕ, ℤ, List, [], ◌∷◌, Bool, true, false, ◌&&◌, Option, Some, None, option_map, map, if◌then◌else◌}
use Rattle.std.specs.Ordering.{nat_cmp, match_ordering}
use Rattle.std.specs.Cmp.Lexicographic.{slice_cmp}
use Rattle.serde_json.specs.Data.{Data, boolean, number, string, array, object, Members, no_members, member}
use Rattle.serde_json.specs.Find.{of_integer}
use Rattle.serde_json.specs.View.{items_of}
use Rattle.dap_json.specs.Put.{whole_number}

-- what is at a key; a value `if_any` is left out where there is none
pub data Value : Type 0 where
  text : List ℕ → Value
  whole : ℕ → Value
  integer : ℤ → Value
  flag : Bool → Value
  tree : Data → Value
  text_if_any : Option (List ℕ) → Value
  whole_if_any : Option ℕ → Value
  tree_if_any : Option Data → Value

-- a flag that is left out where it is not set
abbrev pub flag_if_set : Bool → Value
flag_if_set on = tree_if_any (if on then Some (boolean true) else None)

-- a key with what is there
abbrev pub Field : Type 0
Field = List ℕ × Value

abbrev pub Row : Type 0
Row = List Field

abbrev pub value_data : Value → Option Data
value_data (text t) = Some (string t)
value_data (whole n) = Some (whole_number n)
value_data (integer z) = Some (number (of_integer z))
value_data (flag on) = Some (boolean on)
value_data (tree d) = Some d
value_data (text_if_any t) = option_map string t
value_data (whole_if_any n) = option_map whole_number n
value_data (tree_if_any d) = d

-- the key stands before each of these in byte order
abbrev pub is_before : List ℕ → Row → Bool
is_before key [] = true
is_before key (field ∷ row) = match_ordering (slice_cmp nat_cmp key field.0) true false false && is_before key row

-- the keys are in byte order, none of them twice
abbrev pub is_in_order : Row → Bool
is_in_order [] = true
is_in_order (field ∷ row) = is_before field.0 row && is_in_order row

-- before what follows
abbrev pub with_member : List ℕ → Option Data → Members → Members
with_member key None rest = rest
with_member key (Some d) rest = member key d rest

abbrev pub members_of : Row → Members
members_of [] = no_members
members_of (field ∷ row) = with_member field.0 (value_data field.1) (members_of row)

abbrev pub object_of : Row → Data
object_of row = object (members_of row)

-- a list of objects
abbrev pub list_of : {A : Type 0} → (A → Row) → List A → Data
list_of each xs = array (items_of (map (λ x. object_of (each x)) xs))

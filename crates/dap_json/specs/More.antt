-- Members that stand beside others in an object.
-- RFC 8259, "Objects". The order of keys, and how deep the members may nest, is this profile's choice: a body with them still nests at most 120 deep.
use Rattle.std.specs.Prelude.{ℕ, ◌&&◌, Bool, true, false, List, [], ◌∷◌, Option, Some, None, IsTrue, if◌then◌else◌}
use Rattle.std.specs.Ordering.{nat_cmp, match_ordering}
use Rattle.std.specs.Cmp.Lexicographic.{slice_cmp}
use Rattle.serde_json.specs.Data.{Data, null, boolean, number, string, array, object, Members, no_members, member}
use Rattle.dap_json.specs.Sound.{IsSound}
use Rattle.dap_json.specs.Writable.{is_writable}
use Rattle.dap_json.specs.declared.more.Member.{Member}

abbrev pub members_of : List Member → Members
members_of [] = no_members
members_of (m ∷ ms) = member m.key m.value (members_of ms)

abbrev pub members_in : Members → List Member
members_in no_members = []
members_in (member k d ms) = record { key = k; value = d } ∷ members_in ms

abbrev pub object_with : List Member → Data
object_with ms = object (members_of ms)

-- how deep an object nests that has them
abbrev pub more_nesting : ℕ
more_nesting = 100

-- the key stands before each of theirs in byte order
abbrev pub is_before_each : List ℕ → List Member → Bool
is_before_each key [] = true
is_before_each key (m ∷ ms) = match_ordering (slice_cmp nat_cmp key m.key) true false false && is_before_each key ms

-- the keys are in byte order, none of them twice
abbrev pub are_in_order : List Member → Bool
are_in_order [] = true
are_in_order (m ∷ ms) = is_before_each m.key ms && are_in_order ms

-- in order, without floats, and nested at most so deep
abbrev pub are_more : List Member → Bool
are_more ms = are_in_order ms && is_writable more_nesting (object_with ms)

-- the members of an object that can stand beside others; none of what is no object
abbrev pub more_of : Data → Option (List Member)
more_of null = None
more_of (boolean b) = None
more_of (number n) = None
more_of (string s) = None
more_of (array ds) = None
more_of (object ms) = if is_writable more_nesting (object ms) then Some (members_in ms) else None

-- what holds of members that can
pub record IsMore (ms : List Member) : Type 0 where
  pub are_more : IsTrue (are_more ms)
  pub sound : IsSound (object_with ms)

-- What it is that a value without a fault has: each row of its type is kept; which responses have a body; and what of the
-- debuggee arguments name and bodies give.
use Rattle.std.specs.Prelude.{◌≡◌, ◌≢◌, ℕ, List, [], ◌∷◌, filter, Bool, true, false, ◌&&◌, bytes_eq, Option, Some, None, is_some, MatchOption}
use Rattle.std.specs.List.{AllByRecursion, list_any}
use Rattle.serde_json.specs.Data.{Data}
use Rattle.dap_json.specs.Field.{tree_at}
use Rattle.dap_command.specs.Command.{name_of}
use Rattle.dap_command.specs.Key.{text_of}
use Rattle.dap_command.specs.Objects.{named_object, given_objects, has_body, key_of, member_of, number_key_of}
use Rattle.dap_command.specs.declared.command.Command.{Command}
use Rattle.dap_command.specs.declared.command.Command.TheVariants.{Pause}
use Rattle.dap_command.specs.declared.key.Key.{Key}
use Rattle.dap_command.specs.declared.objects.NamedObject.{NamedObject}
use Rattle.dap_command.specs.declared.objects.NamedObject.TheVariants as names
use Rattle.dap_command.specs.declared.objects.GivenObjects.{GivenObjects}
use Rattle.dap_command.specs.declared.objects.GivenObjects.TheVariants as gives
use Rattle.dap_shape.specs.Shapes.{Row}
use Rattle.dap_shape.specs.Rows.{fields_of, requests, responses}
use Rattle.dap_shape.specs.Faults.{fault_of, row_named}
use Rattle.dap_shape.specs.declared.shape.TypeName.{TypeName}
use Rattle.dap_shape.specs.declared.shape.Scalar.TheVariants.{Whole}
use Rattle.dap_shape.specs.declared.shape.Kind.TheVariants.{Plain, Object}
use Rattle.dap_shape.specs.declared.shape.Shape.{Shape}
use Rattle.dap_shape.specs.declared.shape.Shape.TheVariants.{One, Each}

-- at the key of a row is a value without a fault, or nothing, and then the key is not required
abbrev pub KeepsRow : Data → Row → Type 0
KeepsRow d row = MatchOption (tree_at row.key d) (row.is_required ≡ false) (λ v. fault_of row.shape v ≡ None)

abbrev pub SoundObjectsKeepTheirRows : Type 0
SoundObjectsKeepTheirRows = (name : TypeName) (d : Data) → fault_of (One (Object name)) d ≡ None → AllByRecursion (KeepsRow d) (fields_of name)

abbrev pub is_row_required : Option Row → Bool
is_row_required None = false
is_row_required (Some row) = row.is_required

-- what the Specification asks of the body of a success, and what the row of its command says
pub record BodiesAreAsTheirRowsSay : Type 0 where
  -- one that is required is there
  pub required : (c : Command) → is_row_required (row_named responses (name_of c)) ≡ true → has_body c ≡ true
  -- one that is there may be there
  pub allowed : (c : Command) → has_body c ≡ true → is_some (row_named responses (name_of c)) ≡ true

-- ---- what arguments name, and what bodies give

-- the rows of an object
abbrev pub rows_of_shape : Shape → List Row
rows_of_shape (One (Object name)) = fields_of name
rows_of_shape _ = []

abbrev pub rows_in : Option Row → List Row
rows_in None = []
rows_in (Some row) = rows_of_shape row.shape

abbrev pub is_number : Shape → Bool
is_number (One (Plain Whole)) = true
is_number _ = false

-- at this key is what passes
abbrev pub has_at : List ℕ → (Shape → Bool) → List Row → Bool
has_at key test rows = list_any (λ row. bytes_eq row.key key && test row.shape) rows

-- arguments of this type have a number at the key by which such an object is named
abbrev pub has_number_at : Option Key → List Row → Bool
has_number_at None rows = false
has_number_at (Some key) rows = has_at (text_of key) is_number rows

abbrev pub all_named : List NamedObject
all_named = names.Thread ∷ names.Source ∷ names.Frame ∷ names.Holder ∷ []

abbrev pub named_in : List Row → List NamedObject
named_in rows = filter (λ object. has_number_at (key_of object) rows) all_named

abbrev pub all_but_nothing : NamedObject → List NamedObject
all_but_nothing names.Nothing = []
all_but_nothing object = object ∷ []

-- each object of a list has a number at this key
abbrev pub have_numbers : List ℕ → Shape → Bool
have_numbers key (Each (Object name)) = has_at key is_number (fields_of name)
have_numbers key _ = false

-- what holds such objects: their list, or the number of the value that the body is
abbrev pub holds : GivenObjects → Shape → Bool
holds gives.Value shape = is_number shape
holds objects shape = have_numbers (number_key_of objects) shape

abbrev pub has_member : Option (List ℕ) → (Shape → Bool) → List Row → Bool
has_member None test rows = false
has_member (Some member) test rows = has_at member test rows

abbrev pub all_given : List GivenObjects
all_given = gives.Frames ∷ gives.Scopes ∷ gives.Variables ∷ gives.Value ∷ []

abbrev pub given_in : List Row → List GivenObjects
given_in rows = filter (λ objects. has_member (member_of objects) (holds objects) rows) all_given

abbrev pub none_or_one : GivenObjects → List GivenObjects
none_or_one gives.Nothing = []
none_or_one objects = objects ∷ []

-- the row of a command names and gives what the types of its messages have numbers for. All threads pause: that of a
-- `pause` names nothing.
pub record RowsNameAndGiveAsSpecified : Type 0 where
  pub names : (c : Command) → c ≢ Pause → named_in (rows_in (row_named requests (name_of c))) ≡ all_but_nothing (named_object c)
  pub gives : (c : Command) → given_in (rows_in (row_named responses (name_of c))) ≡ none_or_one (given_objects c)

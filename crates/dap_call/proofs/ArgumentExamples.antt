-- Worked examples of single arguments, each shown by computation.
use Rattle.std.proofs.Common.{◌≡◌, codes, true, false, Some, None, Ok, Err, refl}
use Rattle.serde_json.specs.Data.{Data, boolean, null, number, unsigned, string, array, object, no_items, no_members, put}
use Rattle.serde_json.specs.Find.{as_str, as_bool}
use Rattle.dap_call.specs.Argument.{value_at, required_at, optional_at, optional_or, may_be_absent, must_be_there}
use Rattle.dap_command.specs.Numbers.{number_of}
use Rattle.dap_command.specs.declared.key.Key.TheVariants as key

-- ---- keys

-- a count that is null, one that is a text, and one that is 3
abbrev three : Data
three = object (put (codes "start") null (put (codes "count") (string (codes "3")) (put (codes "levels") (number (unsigned 3)) no_members)))

null_is_absent : (value_at key.Start (Some three) ≡ None) × (value_at key.Line (Some three) ≡ None)
null_is_absent = (refl, refl)

without_arguments : value_at key.Start None ≡ None
without_arguments = refl

required_has_to_be_there : (required_at number_of key.Levels (Some three) ≡ Ok 3) × (required_at number_of key.Start (Some three) ≡ Err key.Start) × (required_at number_of key.Line (Some three) ≡ Err key.Line)
required_has_to_be_there = (refl, refl, refl)

required_has_a_shape : (required_at number_of key.Count (Some three) ≡ Err key.Count) × (required_at as_str key.Count (Some three) ≡ Ok (codes "3"))
required_has_a_shape = (refl, refl)

optional_may_be_absent : (optional_at number_of key.Levels (Some three) ≡ Ok (Some 3)) × (optional_at number_of key.Start (Some three) ≡ Ok None) × (optional_at number_of key.Line None ≡ Ok None)
optional_may_be_absent = (refl, refl, refl)

-- a value that is there in another shape is bad, and not absent
optional_has_a_shape : optional_at number_of key.Count (Some three) ≡ Err key.Count
optional_has_a_shape = refl

default_where_it_is_absent : (optional_or number_of 7 key.Levels (Some three) ≡ Ok 3) × (optional_or number_of 7 key.Start (Some three) ≡ Ok 7) × (optional_or number_of 7 key.Count (Some three) ≡ Err key.Count)
default_where_it_is_absent = (refl, refl, refl)

default_of_a_truth_value : (optional_or as_bool true key.LinesStartAt1 None ≡ Ok true) × (optional_or as_bool true key.LinesStartAt1 (Some (object (put (codes "linesStartAt1") (boolean false) no_members))) ≡ Ok false)
default_of_a_truth_value = (refl, refl)

-- ---- the whole

object_or_nothing : (may_be_absent (Some three) ≡ Ok (Some three)) × (may_be_absent None ≡ Ok None) × (may_be_absent (Some null) ≡ Ok None)
object_or_nothing = (refl, refl, refl)

object_alone : (must_be_there (Some three) ≡ Ok (Some three)) × (must_be_there None ≡ Err key.Arguments) × (must_be_there (Some null) ≡ Err key.Arguments)
object_alone = (refl, refl, refl)

no_object : (may_be_absent (Some (array no_items)) ≡ Err key.Arguments) × (must_be_there (Some (array no_items)) ≡ Err key.Arguments)
no_object = (refl, refl)

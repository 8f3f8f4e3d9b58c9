-- Worked examples, each shown by computation.
use Rattle.std.proofs.Common.{◌≡◌, [], ◌∷◌, codes, true, false, Some, None, refl}
use lib.Ieee.{nan}
use Rattle.std.specs.Fmt.{digits}
use Rattle.std.specs.Str.{is_utf8, chars}
use Rattle.json.specs.Print.{escape_byte}
use Rattle.serde_json.specs.Data.{Data, null, boolean, number, float, string, array, object, no_items, item, no_members, member, put}
use Rattle.serde_json.specs.Written.{compact_text}
use Rattle.serde_json.proofs.OnLiterals.{serde_json_on_literals}
use Rattle.dap_json.specs.Field.{whole_at, text_at, bool_at, tree_at}
use Rattle.dap_json.specs.Put.{put_if, whole_number}
use Rattle.dap_json.specs.Read.{json_of}
use Rattle.dap_json.specs.Writable.{is_writable, is_plain_tree}

-- ---- from bytes

reads_an_object : json_of (codes " {\"b\":1,\"a\":\"x\"} ") ≡ Some (object (member (codes "a") (string (codes "x")) (member (codes "b") (whole_number 1) no_members)))
unfolding json_of is_utf8 chars serde_json_on_literals
reads_an_object = refl

last_of_equal_keys : json_of (codes "{\"a\":1,\"a\":2}") ≡ Some (object (member (codes "a") (whole_number 2) no_members))
unfolding json_of is_utf8 chars serde_json_on_literals
last_of_equal_keys = refl

-- a string of the byte 255
no_utf8 : json_of (34 ∷ 255 ∷ 34 ∷ []) ≡ None
unfolding json_of is_utf8 chars serde_json_on_literals
no_utf8 = refl

-- no float is as great, and nothing else is said of the number
a_number_too_great : json_of (codes "{\"x\":1e999}") ≡ None
unfolding json_of is_utf8 chars serde_json_on_literals
a_number_too_great = refl

half_an_object : json_of (codes "{\"a\":") ≡ None
unfolding json_of is_utf8 chars serde_json_on_literals
half_an_object = refl

-- ---- members

abbrev numbers : Data
numbers = object (put (codes "great") (whole_number 9007199254740992) (put (codes "seq") (whole_number 9007199254740991) (put (codes "none") null no_members)))

greatest_seq : whole_at (codes "seq") numbers ≡ Some 9007199254740991
greatest_seq = refl

past_the_greatest : whole_at (codes "great") numbers ≡ None
past_the_greatest = refl

a_number_is_no_text : text_at (codes "seq") numbers ≡ None
a_number_is_no_text = refl

null_is_absent : tree_at (codes "none") numbers ≡ None
null_is_absent = refl

an_array_has_no_keys : bool_at (codes "a") (array (item (boolean true) no_items)) ≡ None
an_array_has_no_keys = refl

-- ---- building and writing

keys_in_byte_order : put (codes "a") null (put (codes "B") null no_members) ≡ member (codes "B") null (member (codes "a") null no_members)
keys_in_byte_order = refl

nothing_is_put : put_if (codes "a") None no_members ≡ no_members
nothing_is_put = refl

as_text : compact_text (object (member (codes "a") (array (item null (item (whole_number 7) no_items))) (member (codes "b") (string (codes "x\"y")) no_members))) ≡ codes "{\"a\":[null,7],\"b\":\"x\\\"y\"}"
unfolding escape_byte digits
as_text = refl

abbrev two_deep : Data
two_deep = array (item (object no_members) no_items)

two_deep_within_two : is_writable 2 two_deep ≡ true
two_deep_within_two = refl

two_deep_within_one : is_writable 1 two_deep ≡ false
two_deep_within_one = refl

a_scalar_nests_no_deep : is_writable 0 (string (codes "x")) ≡ true
a_scalar_nests_no_deep = refl

an_empty_array_nests_one_deep : is_writable 0 (array no_items) ≡ false
an_empty_array_nests_one_deep = refl

a_float_is_not_written : is_writable 1 (array (item (number (float nan)) no_items)) ≡ false
a_float_is_not_written = refl

null_is_no_tree : is_plain_tree (Some null) ≡ false
null_is_no_tree = refl

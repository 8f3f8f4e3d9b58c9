-- Worked examples of the references that bodies give, each shown by computation.
use Rattle.std.proofs.Common.{◌≡◌, [], ◌∷◌, codes, Some, None, refl}
use Rattle.std.specs.Str.{is_utf8, chars}
use Rattle.serde_json.specs.Data.{null, array, string, object, no_items, no_members}
use Rattle.serde_json.proofs.OnLiterals.{serde_json_on_literals}
use Rattle.std.specs.Prelude.{option_map}
use Rattle.dap_json.specs.Read.{json_of}
use Rattle.dap_command.specs.GivenReferences.{reference_at, frame_ids, holders_of}
use Rattle.dap_command.specs.declared.command.Command.TheVariants.{Threads, Scopes, Variables, Evaluate, SetVariable, StackTrace}

-- ---- frames

-- those without an id, and with one out of its range, are passed over
ids_of_frames : option_map frame_ids (json_of (codes "{\"stackFrames\":[{\"id\":0},{},{\"id\":2147483647},{\"id\":2147483648},{\"id\":-1},{\"id\":1.0}]}")) ≡ Some (0 ∷ 2147483647 ∷ [])
unfolding json_of is_utf8 chars serde_json_on_literals
ids_of_frames = refl

-- the order is kept, and one that comes twice is given twice
ids_as_they_stand : option_map frame_ids (json_of (codes "{\"stackFrames\":[{\"id\":9},{\"id\":2},{\"id\":9}]}")) ≡ Some (9 ∷ 2 ∷ 9 ∷ [])
unfolding json_of is_utf8 chars serde_json_on_literals
ids_as_they_stand = refl

no_frames : (frame_ids (object no_members) ≡ []) × (frame_ids null ≡ []) × (frame_ids (array no_items) ≡ [])
no_frames = (refl, refl, refl)

frames_that_are_no_array : option_map frame_ids (json_of (codes "{\"stackFrames\":{\"id\":1}}")) ≡ Some []
unfolding json_of is_utf8 chars serde_json_on_literals
frames_that_are_no_array = refl

frame_that_is_no_object : option_map frame_ids (json_of (codes "{\"stackFrames\":[7,[{\"id\":7}],{\"id\":8}]}")) ≡ Some (8 ∷ [])
unfolding json_of is_utf8 chars serde_json_on_literals
frame_that_is_no_object = refl

-- ---- scopes, variables and results

scopes_with_variables : option_map (holders_of Scopes) (json_of (codes "{\"scopes\":[{\"name\":\"Locals\",\"variablesReference\":2},{\"variablesReference\":5}]}")) ≡ Some (2 ∷ 5 ∷ [])
unfolding json_of is_utf8 chars serde_json_on_literals
scopes_with_variables = refl

-- 0 says that there is nothing to ask for
variables_with_children : option_map (holders_of Variables) (json_of (codes "{\"variables\":[{\"variablesReference\":0},{\"variablesReference\":3}]}")) ≡ Some (3 ∷ [])
unfolding json_of is_utf8 chars serde_json_on_literals
variables_with_children = refl

-- what the key of the other response holds is not looked at
scopes_are_no_variables : option_map (holders_of Variables) (json_of (codes "{\"scopes\":[{\"variablesReference\":2}]}")) ≡ Some []
unfolding json_of is_utf8 chars serde_json_on_literals
scopes_are_no_variables = refl

one_of_a_result : (option_map (holders_of Evaluate) (json_of (codes "{\"result\":\"P\",\"variablesReference\":3}")) ≡ Some (3 ∷ [])) × (option_map (holders_of SetVariable) (json_of (codes "{\"value\":\"P\",\"variablesReference\":3}")) ≡ Some (3 ∷ []))
unfolding json_of is_utf8 chars serde_json_on_literals
one_of_a_result = (refl, refl)

none_of_a_result : option_map (holders_of Evaluate) (json_of (codes "{\"result\":\"1\",\"variablesReference\":0}")) ≡ Some []
unfolding json_of is_utf8 chars serde_json_on_literals
none_of_a_result = refl

result_that_is_no_object : (holders_of Evaluate null ≡ []) × (holders_of SetVariable (string (codes "3")) ≡ [])
result_that_is_no_object = (refl, refl)

-- a response to another command gives none
none_of_others : option_map (holders_of Threads) (json_of (codes "{\"variablesReference\":3}")) ≡ Some []
unfolding json_of is_utf8 chars serde_json_on_literals
none_of_others = refl

frames_are_no_holders : option_map (holders_of StackTrace) (json_of (codes "{\"stackFrames\":[{\"id\":1,\"variablesReference\":3}]}")) ≡ Some []
unfolding json_of is_utf8 chars serde_json_on_literals
frames_are_no_holders = refl

-- ---- single references

least_and_greatest : (option_map (reference_at (codes "n") 1) (json_of (codes "{\"n\":1}")) ≡ Some (Some 1)) × (option_map (reference_at (codes "n") 1) (json_of (codes "{\"n\":0}")) ≡ Some None) × (option_map (reference_at (codes "n") 0) (json_of (codes "{\"n\":0}")) ≡ Some (Some 0))
unfolding json_of is_utf8 chars serde_json_on_literals
least_and_greatest = (refl, refl, refl)

-- Worked examples of what commands name and give, each shown by computation.
use Rattle.std.proofs.Common.{◌≡◌, [], ◌∷◌, codes, false, Some, None, refl}
use Rattle.std.specs.Prelude.{map, filter}
use Rattle.dap_command.specs.Command.{name_of, all_commands}
use Rattle.dap_command.specs.Objects.{named_object, given_objects, has_body, names_frame, names_holder, commands_that_name, key_of, member_of, number_key_of, least_of, are_frames}
use Rattle.dap_command.specs.declared.command.Command.TheVariants as command
use Rattle.dap_command.specs.declared.key.Key.TheVariants.{ThreadId, FrameId}
use Rattle.dap_command.specs.declared.objects.NamedObject.TheVariants as names
use Rattle.dap_command.specs.declared.objects.GivenObjects.TheVariants as gives

steps_name_a_thread : (named_object command.StepIn ≡ names.Thread) × (key_of (named_object command.StepIn) ≡ Some ThreadId)
steps_name_a_thread = (refl, refl)

-- all threads pause
pause_names_nothing : (named_object command.Pause ≡ names.Nothing) × (key_of (named_object command.Pause) ≡ None)
pause_names_nothing = (refl, refl)

scopes_of_a_frame : (named_object command.Scopes ≡ names.Frame) × (key_of names.Frame ≡ Some FrameId) × (given_objects command.Scopes ≡ gives.Scopes)
scopes_of_a_frame = (refl, refl, refl)

frames_of_a_thread : (named_object command.StackTrace ≡ names.Thread) × (given_objects command.StackTrace ≡ gives.Frames)
frames_of_a_thread = (refl, refl)

those_that_name_frames : commands_that_name names_frame ≡ codes "scopes" ∷ codes "evaluate" ∷ codes "completions" ∷ []
those_that_name_frames = refl

those_that_name_holders : commands_that_name names_holder ≡ codes "variables" ∷ codes "setVariable" ∷ []
those_that_name_holders = refl

-- the ids of frames come from `stackTrace` alone
those_that_give_frames : map name_of (filter (λ c. are_frames (given_objects c)) all_commands) ≡ codes "stackTrace" ∷ []
those_that_give_frames = refl

members_of_bodies : (member_of (given_objects command.StackTrace) ≡ Some (codes "stackFrames")) × (member_of (given_objects command.Evaluate) ≡ Some (codes "variablesReference")) × (member_of (given_objects command.Source) ≡ None)
members_of_bodies = (refl, refl, refl)

numbers_of_objects : (number_key_of gives.Frames ≡ codes "id") × (least_of gives.Frames ≡ 0) × (number_key_of gives.Scopes ≡ codes "variablesReference") × (least_of gives.Scopes ≡ 1)
numbers_of_objects = (refl, refl, refl, refl)

-- success says all
without_bodies : (has_body command.Launch ≡ false) × (has_body command.Disconnect ≡ false) × (has_body command.Next ≡ false) × (has_body command.Pause ≡ false)
without_bodies = (refl, refl, refl, refl)

with_bodies : map name_of (filter has_body all_commands)
    ≡ codes "initialize" ∷ codes "threads" ∷ codes "setBreakpoints" ∷ codes "setFunctionBreakpoints" ∷ codes "continue" ∷ codes "stackTrace" ∷ codes "scopes" ∷ codes "variables"
    ∷ codes "evaluate" ∷ codes "source" ∷ codes "loadedSources" ∷ codes "setVariable" ∷ codes "modules" ∷ codes "exceptionInfo" ∷ codes "breakpointLocations" ∷ codes "completions" ∷ []
with_bodies = refl

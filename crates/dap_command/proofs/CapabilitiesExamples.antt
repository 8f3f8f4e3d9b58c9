-- Worked examples of what an adapter offers, each shown by computation.
use Rattle.std.proofs.Common.{◌≡◌, codes, true, false, Some, None, refl}
use Rattle.serde_json.specs.Data.{Data, boolean, null, string, array, object, no_items, item, no_members, put}
use Rattle.dap_command.specs.Capabilities.{is_flag, offered_by, updated_by, has, is_allowed, capabilities_data}
use Rattle.dap_command.specs.declared.capabilities.Capabilities.{Capabilities}
use Rattle.dap_command.specs.declared.command.Command.TheVariants.{StepBack, ReverseContinue, SetExceptionBreakpoints, Threads, Terminate, Cancel}
use Rattle.dap_command.specs.declared.command.Gate.TheVariants as gate

-- ---- what is offered

-- an adapter that steps back, and has exception filters
abbrev body : Data
body = object (put (codes "supportsStepBack") (boolean true) (put (codes "exceptionBreakpointFilters") (array (item (object no_members) no_items)) no_members))

abbrev offered : Capabilities
offered = offered_by (Some body)

steps_back : (is_allowed offered StepBack ≡ true) × (is_allowed offered ReverseContinue ≡ true)
steps_back = (refl, refl)

filters_and_threads_are_allowed : (is_allowed offered SetExceptionBreakpoints ≡ true) × (is_allowed offered Threads ≡ true)
filters_and_threads_are_allowed = (refl, refl)

does_not_terminate : (is_allowed offered Terminate ≡ false) × (has offered gate.Terminate ≡ false)
does_not_terminate = (refl, refl)

without_a_body : (is_allowed (offered_by None) Terminate ≡ false) × (is_allowed (offered_by None) Threads ≡ true)
without_a_body = (refl, refl)

body_that_is_no_object : offered_by (Some (array (item body no_items))) ≡ offered_by None
body_that_is_no_object = refl

-- a flag counts where it is `true`, and not where it is anything else
no_truth_value : (is_flag gate.Cancel (Some (object (put (codes "supportsCancelRequest") (string (codes "true")) no_members))) ≡ false) × (is_flag gate.Cancel (Some (object (put (codes "supportsCancelRequest") null no_members))) ≡ false) × (is_flag gate.Cancel (Some (object (put (codes "supportsCancelRequest") (boolean false) no_members))) ≡ false)
no_truth_value = (refl, refl, refl)

-- ---- updates

-- what an object of one flag makes of it
abbrev step_back_is : Data → Capabilities
step_back_is d = updated_by (object (put (codes "supportsStepBack") d no_members)) offered

updated_away : is_allowed (step_back_is (boolean false)) StepBack ≡ false
updated_away = refl

other_flag_comes : is_allowed (updated_by (object (put (codes "supportsCancelRequest") (boolean true) no_members)) offered) Cancel ≡ true
other_flag_comes = refl

what_is_not_named_stays : is_allowed (updated_by (object (put (codes "supportsTerminateRequest") (boolean true) no_members)) offered) StepBack ≡ true
what_is_not_named_stays = refl

null_is_false : is_allowed (step_back_is null) StepBack ≡ false
null_is_false = refl

no_truth_value_is_false : is_allowed (step_back_is (string (codes "true"))) StepBack ≡ false
no_truth_value_is_false = refl

what_is_no_object_changes_nothing : updated_by (array no_items) offered ≡ offered
what_is_no_object_changes_nothing = refl

-- ---- what is written

only_what_is_set : capabilities_data offered ≡ object (put (codes "supportsStepBack") (boolean true) no_members)
only_what_is_set = refl

nothing_is_set : capabilities_data (offered_by None) ≡ object no_members
nothing_is_set = refl

written_is_read_again : offered_by (Some (capabilities_data (step_back_is (boolean true)))) ≡ offered
written_is_read_again = refl

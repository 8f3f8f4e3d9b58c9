-- Worked examples of what an adapter offers, each shown by computation.
use Rattle.std.proofs.Common.{◌≡◌, ℕ, List, codes, true, false, Some, None, Ok, Err, [], ◌∷◌, refl}
use Rattle.serde_json.specs.Data.{Data, boolean, null, string, array, object, no_items, item, no_members, Members, put}
use Rattle.dap_command.specs.Capabilities.{is_allowed}
use Rattle.dap_command.specs.Offer.{usual_offer, gates_of, refused_key, offer_in, opened_offer_in, is_among, served_flags, unserved_flags}
use Rattle.dap_command.specs.Opening.{is_offered, refused_name}
use Rattle.dap_command.specs.declared.opening.Opened.{Opened}
use Rattle.dap_command.specs.declared.command.Command.TheVariants.{StepBack, ReverseContinue, Completions, Cancel, Threads, SetVariable}
use Rattle.dap_command.specs.declared.offer.OfferFault.TheVariants.{NotObject, BadKey}

abbrev one : Data → Members
one d = put (codes "supportsStepBack") d no_members

abbrev at : Data → Data
at d = object (put (codes "supportsRestartFrame") d no_members)

-- ---- what is offered

usually_all_six : (is_allowed (gates_of usual_offer) StepBack ≡ true) × (is_allowed (gates_of usual_offer) Cancel ≡ true) × (is_allowed (gates_of usual_offer) SetVariable ≡ true)
usually_all_six = (refl, refl, refl)

never_completions : is_allowed (gates_of usual_offer) Completions ≡ false
never_completions = refl

nothing_is_said : offer_in (object no_members) ≡ Ok usual_offer
nothing_is_said = refl

taken_back : offer_in (object (one (boolean false))) ≡ Ok (record usual_offer { step_back = false })
taken_back = refl

-- with it, both commands that go back
goes_no_way_back : (is_allowed (gates_of (record usual_offer { step_back = false })) StepBack ≡ false) × (is_allowed (gates_of (record usual_offer { step_back = false })) ReverseContinue ≡ false) × (is_allowed (gates_of (record usual_offer { step_back = false })) Threads ≡ true)
goes_no_way_back = (refl, refl, refl)

offered_all_the_same : offer_in (object (one (boolean true))) ≡ Ok usual_offer
offered_all_the_same = refl

conditions_and_filters : offer_in (object (put (codes "supportsConditionalBreakpoints") (boolean true) (put (codes "exceptionBreakpointFilters") (array no_items) (one (boolean true)))))
    ≡ Ok (record usual_offer { more = record { key = codes "exceptionBreakpointFilters"; value = array no_items } ∷ record { key = codes "supportsConditionalBreakpoints"; value = boolean true } ∷ [] })
conditions_and_filters = refl

-- ---- what can't be

no_flag : (offer_in (object (one null)) ≡ Err (BadKey (codes "supportsStepBack"))) × (offer_in (object (one (string (codes "yes")))) ≡ Err (BadKey (codes "supportsStepBack")))
no_flag = (refl, refl)

not_served : (offer_in (at (boolean true)) ≡ Err (BadKey (codes "supportsRestartFrame"))) × (offer_in (at null) ≡ Err (BadKey (codes "supportsRestartFrame")))
not_served = (refl, refl)

not_offered : offer_in (at (boolean false)) ≡ Ok usual_offer
not_offered = refl

no_references : offer_in (object (put (codes "variablesReference") (boolean false) no_members)) ≡ Err (BadKey (codes "variablesReference"))
no_references = refl

the_first_key : refused_key [] (put (codes "supportsStepBack") null (put (codes "supportsRestartRequest") (boolean true) (put (codes "a") (boolean true) no_members))) ≡ Some (codes "supportsRestartRequest")
the_first_key = refl

no_object : (offer_in null ≡ Err NotObject) × (offer_in (array (item (object no_members) no_items)) ≡ Err NotObject)
no_object = (refl, refl)

-- no flag is of both kinds
apart : (is_among (codes "supportsStepBack") unserved_flags ≡ false) × (is_among (codes "supportsRestartRequest") served_flags ≡ false)
apart = (refl, refl)

-- ---- what is opened

abbrev named : List ℕ → Opened
named name = record { name = name; in_stops = true }

abbrev goes_to : List Opened
goes_to = named (codes "gotoTargets") ∷ named (codes "goto") ∷ []

-- its flag is offered, whether it is said or not
completions_opened : (is_allowed (gates_of (record usual_offer { opened = named (codes "completions") ∷ [] })) Completions ≡ true) × (opened_offer_in (named (codes "completions") ∷ []) (object no_members) ≡ Ok (record usual_offer { opened = named (codes "completions") ∷ [] }))
completions_opened = (refl, refl)

further_flags : opened_offer_in (named (codes "readMemory") ∷ []) (object no_members) ≡ Ok (record usual_offer { opened = named (codes "readMemory") ∷ []; more = record { key = codes "supportsReadMemoryRequest"; value = boolean true } ∷ [] })
further_flags = refl

said_as_well : opened_offer_in (named (codes "restartFrame") ∷ []) (at (boolean true)) ≡ opened_offer_in (named (codes "restartFrame") ∷ []) (object no_members)
said_as_well = refl

said_not_to_be : opened_offer_in (named (codes "restartFrame") ∷ []) (at (boolean false)) ≡ Err (BadKey (codes "supportsRestartFrame"))
said_not_to_be = refl

-- a flag of two commands
both_are_needed : (is_offered goes_to (codes "supportsGotoTargetsRequest") ≡ true) × (is_offered (named (codes "goto") ∷ []) (codes "supportsGotoTargetsRequest") ≡ false)
both_are_needed = (refl, refl)

-- a command of one's own has none
no_flag_of_its_own : opened_offer_in (named (codes "profile") ∷ []) (object no_members) ≡ Ok (record usual_offer { opened = named (codes "profile") ∷ [] })
no_flag_of_its_own = refl

-- ---- what can be opened

can_be : (refused_name (named (codes "readMemory") ∷ named (codes "restart") ∷ []) ≡ None) × (refused_name goes_to ≡ None)
can_be = (refl, refl)

can_not : (refused_name (named (codes "threads") ∷ []) ≡ Some (codes "threads")) × (refused_name (named (codes "goto") ∷ named (codes "cancel") ∷ []) ≡ Some (codes "cancel")) × (refused_name (named (codes "a\"b") ∷ []) ≡ Some (codes "a\"b"))
can_not = (refl, refl, refl)

not_twice : refused_name (named (codes "goto") ∷ named (codes "modules") ∷ named (codes "goto") ∷ []) ≡ Some (codes "goto")
not_twice = refl

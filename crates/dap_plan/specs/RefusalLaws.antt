-- An answer that is refused for its size, or for want of room or of numbers, changes nothing.
-- That nothing is given or set then is this profile's choice.
use Rattle.std.specs.Prelude.{◌≡◌, List, ◌∷◌, ◌++◌, Bool, true, false, Some, Ok}
use Rattle.dap_body.specs.declared.failure.Failure.{Failure}
use Rattle.dap_body.specs.declared.failure.Failure.TheVariants.{TooManyBreakpoints, TooManyReferences, ReferencesExhausted, TooLarge}
use Rattle.dap_tables.specs.declared.entry.Entry.{Entry}
use Rattle.dap_debuggee.specs.Shown.{Shown}
use Rattle.dap_plan.specs.Handling.{turns}
use Rattle.dap_plan.specs.Laws.{CanMake}
use Rattle.dap_plan.specs.Plan.{Made, Plan, at_once, after_answering}
use Rattle.dap_outbox.specs.Draft.{Draft, reply, failure}
use Rattle.dap_plan.specs.Session.{Session}

abbrev pub is_for_room : Failure → Bool
is_for_room TooManyBreakpoints = true
is_for_room TooManyReferences = true
is_for_room ReferencesExhausted = true
is_for_room TooLarge = true
is_for_room _ = false

-- where a turn writes such a failure, the debuggee is asked nothing, and nothing is done but that the request is answered
abbrev pub RefusalsChangeNothing : Type 0
RefusalsChangeNothing = (view : Shown) (s : Session) (plan : Plan) (made : Made) (before after : List Draft) (r : Entry) (f : Failure) → turns view s ≡ Ok (Some plan) → CanMake plan made
    → made.drafts ≡ before ++ reply r (failure f) ∷ after → is_for_room f ≡ true → plan ≡ at_once (after_answering r (failure f) s)

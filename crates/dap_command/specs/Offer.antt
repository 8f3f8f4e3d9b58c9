-- What an adapter offers, as who opens it says: the flags that gate what it serves, commands that whoever opens it answers, and more members of the body of `initialize`.
-- Specification, "Capabilities". Which flags may be taken back, and which keys may not be said, is this profile's choice.
use Rattle.std.specs.Prelude.{ℕ, List, [], ◌∷◌, map, codes, bytes_eq, Bool, true, false, not, ◌||◌, Option, Some, None, is_some, unwrap_or, Result, Ok, Err, if◌then◌else◌}
use Rattle.std.specs.List.{list_any}
use Rattle.serde_json.specs.Data.{Data, null, boolean, number, string, array, object, Members, no_members, member, put}
use Rattle.serde_json.specs.Find.{as_bool}
use Rattle.dap_json.specs.More.{members_in}
use Rattle.dap_json.specs.Writable.{is_writable}
use Rattle.dap_command.specs.Capabilities.{updated_flag}
use Rattle.dap_command.specs.Command.{flag_of}
use Rattle.dap_command.specs.declared.capabilities.Capabilities.{Capabilities}
use Rattle.dap_command.specs.Opening.{further_rows, flag_rows, is_opened, is_offered}
use Rattle.dap_command.specs.declared.command.Gate.TheVariants.{Cancel, ConfigurationDone, LoadedSources, SetVariable, StepBack, Terminate}
use Rattle.dap_command.specs.declared.offer.Offer.{Offer}
use Rattle.dap_command.specs.declared.offer.OfferFault.{OfferFault}
use Rattle.dap_command.specs.declared.opening.Opened.{Opened}
use Rattle.dap_command.specs.declared.offer.OfferFault.TheVariants.{NotObject, BadKey}

-- all that is served, and no more
abbrev pub usual_offer : Offer
usual_offer = record { cancel = true; configuration_done = true; loaded_sources = true; set_variable = true; step_back = true; terminate = true; opened = []; more = [] }

-- its flags that gate a command: what is never served is offered where it is opened
abbrev pub gates_of : Offer → Capabilities
gates_of o = record {
  breakpoint_locations = is_opened (codes "breakpointLocations") o.opened;
  cancel = o.cancel;
  completions = is_opened (codes "completions") o.opened;
  configuration_done = o.configuration_done;
  exception_info = is_opened (codes "exceptionInfo") o.opened;
  function_breakpoints = is_opened (codes "setFunctionBreakpoints") o.opened;
  loaded_sources = o.loaded_sources;
  modules = is_opened (codes "modules") o.opened;
  restart = is_opened (codes "restart") o.opened;
  set_variable = o.set_variable;
  step_back = o.step_back;
  terminate = o.terminate;
}

-- ---- as an author writes it

-- flags of what is served, which may be taken back
abbrev pub served_flags : List (List ℕ)
served_flags = map flag_of (Cancel ∷ ConfigurationDone ∷ LoadedSources ∷ SetVariable ∷ StepBack ∷ Terminate ∷ [])

-- flags of commands that are never served
abbrev pub unserved_flags : List (List ℕ)
unserved_flags = map (λ r. r.flag) flag_rows

-- what a reader would take for references
abbrev pub reference_keys : List (List ℕ)
reference_keys = codes "scopes" ∷ codes "stackFrames" ∷ codes "variables" ∷ codes "variablesReference" ∷ []

abbrev pub is_among : List ℕ → List (List ℕ) → Bool
is_among key keys = list_any (bytes_eq key) keys

-- how deep what is at a key may nest
abbrev pub value_nesting : ℕ
value_nesting = 99

-- it is that truth value
abbrev pub is_said : Bool → Data → Bool
is_said true d = unwrap_or (as_bool d) false
is_said false d = not (unwrap_or (as_bool d) true)

-- A flag of what is served has to be `true` or `false`; one of what never is, `true` where each command that it gates is opened, else `false`. What else is there has no float and is not too deep.
abbrev pub is_refused : List Opened → List ℕ → Data → Bool
is_refused opened key d =
    if is_among key served_flags then not (is_some (as_bool d))
    else if is_among key unserved_flags then not (is_said (is_offered opened key) d)
    else (is_among key reference_keys || not (is_writable value_nesting d))

-- the first key that is refused
abbrev pub refused_key : List Opened → Members → Option (List ℕ)
refused_key opened no_members = None
refused_key opened (member key d ms) = if is_refused opened key d then Some key else refused_key opened ms

-- those members with the others put in: all but the flags of commands
abbrev pub with_others : Members → Members → Members
with_others kept no_members = kept
with_others kept (member key d ms) = with_others (if is_among key served_flags || is_among key unserved_flags then kept else put key d kept) ms

-- with a flag where it is offered
abbrev pub with_flag_of : List Opened → List ℕ → Members → Members
with_flag_of opened flag ms = if is_offered opened flag then put flag (boolean true) ms else ms

abbrev pub with_flags : List (List ℕ) → List Opened → Members → Members
with_flags [] opened ms = ms
with_flags (flag ∷ flags) opened ms = with_flags flags opened (with_flag_of opened flag ms)

-- what stands beside the flags that gate a command
abbrev pub beside_gates : List Opened → Members → Members
beside_gates opened ms = with_flags (map (λ r. r.flag) further_rows) opened (with_others no_members ms)

-- a flag that is not named is offered
abbrev pub offer_of : List Opened → Members → Offer
offer_of opened ms = record {
  cancel = updated_flag Cancel (object ms) true;
  configuration_done = updated_flag ConfigurationDone (object ms) true;
  loaded_sources = updated_flag LoadedSources (object ms) true;
  set_variable = updated_flag SetVariable (object ms) true;
  step_back = updated_flag StepBack (object ms) true;
  terminate = updated_flag Terminate (object ms) true;
  opened = opened;
  more = members_in (beside_gates opened ms);
}

abbrev pub unless_refused : Option (List ℕ) → List Opened → Members → Result Offer OfferFault
unless_refused (Some key) opened ms = Err (BadKey key)
unless_refused None opened ms = Ok (offer_of opened ms)

-- what is read, with these commands opened, or what is wrong
abbrev pub opened_offer_in : List Opened → Data → Result Offer OfferFault
opened_offer_in opened null = Err NotObject
opened_offer_in opened (boolean b) = Err NotObject
opened_offer_in opened (number n) = Err NotObject
opened_offer_in opened (string s) = Err NotObject
opened_offer_in opened (array ds) = Err NotObject
opened_offer_in opened (object ms) = unless_refused (refused_key opened ms) opened ms

-- the same with none
abbrev pub offer_in : Data → Result Offer OfferFault
offer_in d = opened_offer_in [] d

-- Which flags are offered, by the lines that switch them on and off.
use Rattle.std.proofs.Common.{◌≡◌, List, [], ◌∷◌, ◌++◌, Bool, true, false, Option, Some, None, refl, sym, ap, ◌∙◌, subst}
use Rattle.std.specs.Prelude.{not, ◌&&◌, ◌||◌, cond, option_map, option_and_then, unwrap_or, codes}
use Rattle.std.specs.List.{list_any}
use Rattle.std.proofs.lemmas.List.{append_assoc, append-nil}
use Rattle.serde_json.specs.Data.{Data}
use Rattle.serde_json.specs.Find.{get, as_bool}
use Rattle.dap_json.specs.Field.{tree_at}
use Rattle.dap_command.specs.Command.{flag_of}
use Rattle.dap_command.specs.Capabilities.{is_flag, has, capabilities_of, updated_flag, flag_after}
use Rattle.dap_command.specs.declared.capabilities.Capabilities.{Capabilities}
use Rattle.dap_command.specs.declared.command.Gate.{Gate}
use Rattle.dap_command.specs.declared.command.Gate.TheVariants.{BreakpointLocations, Cancel, Completions, ConfigurationDone, ExceptionInfo, FunctionBreakpoints, LoadedSources, Modules, Restart, SetVariable, StepBack, Terminate}
use Rattle.dap_check.specs.Since.{is_open, last_since, Past}
use Rattle.dap_check.specs.Lines.{body_of, succeeds, is_adapter_event}
use Rattle.dap_check.specs.Rules.{initialize, offered_capabilities, offered_since, offered_after, updated_to}
use Rattle.dap_check.specs.Kept.{offer_after}
use Rattle.dap_check.specs.Places.{named_by, is_on, is_off, switches_on, switches_off}
use Rattle.dap_check.specs.declared.line.Line.{Line}
use Rattle.dap_check.specs.SinceLaws.{any_push, open_push, last_push}
use Rattle.dap_check.proofs.OfferLemmas.{one_later}

-- the flags that pass are those that it has
has_flag : (is_set : Gate → Bool) (gate : Gate) → has (capabilities_of is_set) gate ≡ is_set gate
has_flag is_set BreakpointLocations = refl
has_flag is_set Cancel = refl
has_flag is_set Completions = refl
has_flag is_set ConfigurationDone = refl
has_flag is_set ExceptionInfo = refl
has_flag is_set FunctionBreakpoints = refl
has_flag is_set LoadedSources = refl
has_flag is_set Modules = refl
has_flag is_set Restart = refl
has_flag is_set SetVariable = refl
has_flag is_set StepBack = refl
has_flag is_set Terminate = refl

-- what is offered so far, none before `initialize` has succeeded
abbrev so_far : List Line → Option Capabilities
so_far earlier = option_map offered_since (last_since (succeeds initialize) earlier)

abbrev flag_in : Gate → Option Capabilities → Bool
flag_in gate None = false
flag_in gate (Some c) = has c gate

abbrev is_there : Option Capabilities → Bool
is_there None = false
is_there (Some c) = true

so_far_later : (earlier : List Line) (line : Line) → so_far (earlier ++ line ∷ []) ≡ offer_after (succeeds initialize line) line (so_far earlier)
so_far_later earlier line = ap (option_map offered_since) (last_push (succeeds initialize) earlier line) ∙ one_later (succeeds initialize line) line (last_since (succeeds initialize) earlier)

-- ---- a `capabilities` event

flag_replaced : (found : Option Data) (before : Bool) → flag_after found before ≡ unwrap_or (option_map (λ d. unwrap_or (as_bool d) false) found) before
flag_replaced None before = refl
flag_replaced (Some d) before = refl

flag_updated : (gate : Gate) (tree : Option Data) (c : Capabilities) → has (updated_to tree c) gate ≡ unwrap_or (option_map (λ d. unwrap_or (as_bool d) false) (option_and_then (get (flag_of gate)) tree)) (has c gate)
flag_updated gate None c = refl
flag_updated gate (Some d) c = has_flag (λ g. updated_flag g d (has c g)) gate ∙ flag_replaced (get (flag_of gate) d) (has c gate)

flag_told : (tells_it : Bool) (gate : Gate) (tree : Option Data) (c : Capabilities)
    → has (cond tells_it (updated_to tree c) c) gate ≡ unwrap_or (option_map (λ d. unwrap_or (as_bool d) false) (cond tells_it (option_and_then (get (flag_of gate)) tree) None)) (has c gate)
flag_told true gate tree c = flag_updated gate tree c
flag_told false gate tree c = refl

-- ---- one line later

-- what a line decides, of a flag that was on or off
switched : (decided : Option Bool) (before : Bool) → unwrap_or decided before ≡ ((before && not (is_off decided)) || is_on decided)
switched None true = refl
switched None false = refl
switched (Some true) true = refl
switched (Some true) false = refl
switched (Some false) true = refl
switched (Some false) false = refl

abbrev deciding : Bool → Gate → Line → Option Bool
deciding succeeds_it gate line = cond succeeds_it (Some (is_flag gate (body_of line.message.kind))) (option_map (λ d. unwrap_or (as_bool d) false) (named_by gate line))

-- the flag is on where there is an offer, and it was switched on
pub record IsSwitched (gate : Gate) (offer : Option Capabilities) (any on : Bool) : Type 0 where
  pub there : is_there offer ≡ any
  pub flag : flag_in gate offer ≡ (any && on)

answered : (b on : Bool) → b ≡ ((on && not (is_off (Some b))) || b)
answered true true = refl
answered true false = refl
answered false true = refl
answered false false = refl

true_later : (any : Bool) → true ≡ (any || true)
true_later true = refl
true_later false = refl

and_true : (any b : Bool) → b ≡ ((any || true) && b)
and_true true b = refl
and_true false b = refl

switched_later : (gate : Gate) (offer : Option Capabilities) (any on : Bool) (line : Line) (succeeds_it : Bool) → IsSwitched gate offer any on
    → IsSwitched gate (offer_after succeeds_it line offer) (any || succeeds_it) ((on && not (is_off (deciding succeeds_it gate line))) || is_on (deciding succeeds_it gate line))
switched_later gate offer any on line true is =
    let b = is_flag gate (body_of line.message.kind) in
    record { there = true_later any; flag = has_flag (λ g. is_flag g (body_of line.message.kind)) gate ∙ answered b on ∙ and_true any ((on && not (is_off (Some b))) || b) }
switched_later gate None true on line false is = absurd (let e = is.there in cc e)
switched_later gate None false on line false is = record { there = refl; flag = refl }
switched_later gate (Some c) false on line false is = absurd (let e = is.there in cc e)
switched_later gate (Some c) true on line false is =
    let decided = deciding false gate line in
    record {
      there = refl;
      flag = flag_told (is_adapter_event (codes "capabilities" ∷ []) line) gate (option_and_then (tree_at (codes "capabilities")) (body_of line.message.kind)) c ∙ ap (unwrap_or decided) is.flag ∙ switched decided on;
    }

module _ (gate : Gate) where
  switched_push : (earlier : List Line) (line : Line) → IsSwitched gate (so_far earlier) (list_any (succeeds initialize) earlier) (is_open (switches_on gate) (switches_off gate) earlier)
      → IsSwitched gate (so_far (earlier ++ line ∷ [])) (list_any (succeeds initialize) (earlier ++ line ∷ [])) (is_open (switches_on gate) (switches_off gate) (earlier ++ line ∷ []))
  switched_push earlier line is =
      let more = switched_later gate (so_far earlier) (list_any (succeeds initialize) earlier) (is_open (switches_on gate) (switches_off gate) earlier) line (succeeds initialize line) is in
      record {
        there = ap is_there (so_far_later earlier line) ∙ more.there ∙ sym (any_push (succeeds initialize) earlier line);
        flag = ap (flag_in gate) (so_far_later earlier line) ∙ more.flag
            ∙ sym (ap (λ b. b && is_open (switches_on gate) (switches_off gate) (earlier ++ line ∷ [])) (any_push (succeeds initialize) earlier line)
            ∙ ap (λ b. (list_any (succeeds initialize) earlier || succeeds initialize line) && b) (open_push (switches_on gate) (switches_off gate) earlier line));
      }

  switched_from : (earlier later : List Line) → IsSwitched gate (so_far earlier) (list_any (succeeds initialize) earlier) (is_open (switches_on gate) (switches_off gate) earlier)
      → IsSwitched gate (so_far (earlier ++ later)) (list_any (succeeds initialize) (earlier ++ later)) (is_open (switches_on gate) (switches_off gate) (earlier ++ later))
  switched_from earlier [] is = subst (λ z. IsSwitched gate (so_far z) (list_any (succeeds initialize) z) (is_open (switches_on gate) (switches_off gate) z)) (sym (append-nil earlier)) is
  switched_from earlier (line ∷ later) is =
      subst (λ z. IsSwitched gate (so_far z) (list_any (succeeds initialize) z) (is_open (switches_on gate) (switches_off gate) z)) (append_assoc earlier (line ∷ []) later) (switched_from (earlier ++ line ∷ []) later (switched_push earlier line is))

  flag_of_offer : (offer : Option (Past Line)) → has (offered_after offer) gate ≡ flag_in gate (option_map offered_since offer)
  flag_of_offer None = has_flag (λ g. is_flag g None) gate
  flag_of_offer (Some past) = refl

  -- a flag is offered where `initialize` has succeeded and the flag was switched on last
  pub offered_flag : (earlier : List Line) → has (offered_capabilities earlier) gate ≡ (list_any (succeeds initialize) earlier && is_open (switches_on gate) (switches_off gate) earlier)
  offered_flag earlier = flag_of_offer (last_since (succeeds initialize) earlier) ∙ (switched_from [] earlier (record { there = refl; flag = refl })).flag

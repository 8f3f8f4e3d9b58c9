-- A turn is a row of the table, or one failure: where no failure holds, the request is of a command that is served, with arguments that suit.
use Rattle.std.proofs.Common.{◌≡◌, ℕ, ◌+◌, ◌≤◌, [], ◌∷◌, Bool, true, false, Option, Some, None, Result, Ok, Err, refl, sym, subst, arith}
use Rattle.std.specs.Prelude.{◌&&◌, not, nat_le, if◌then◌else◌}
use Rattle.std.proofs.lemmas.Bool.Decides.{nat_tests}
use Rattle.dap_call.specs.Argument.{Read}
use Rattle.dap_call.specs.declared.call.Call.{Call}
use Rattle.dap_command.specs.declared.command.Command.{Command}
use Rattle.dap_command.specs.declared.command.Command.TheVariants as command
use Rattle.dap_body.specs.declared.failure.Failure.{Failure}
use Rattle.dap_body.specs.declared.failure.Failure.TheVariants.{NotInitialized, UnknownCommand, BadArguments, WrongPhase, NotStopped}
use Rattle.dap_tables.specs.Outstanding.{Kept}
use Rattle.dap_tables.specs.declared.entry.Entry.{Entry}
use Rattle.dap_debuggee.specs.Shown.{Shown}
use Rattle.dap_decision.specs.declared.effect.Effect.{Effect}
use Rattle.dap_decision.specs.declared.effect.Effect.TheVariants as effect
use Rattle.dap_plan.specs.GivenLaws.{is_set_variable}
use Rattle.dap_plan.specs.declared.fault.AdapterFault.{AdapterFault}
use Rattle.dap_decision.specs.declared.phase.Phase.TheVariants.{Fresh}
use Rattle.dap_decision.specs.Failures.{command_of, call_in, first_failure, or_else, when, name_refused, key_refused, phase_refused, call_refused, read_refused, known_refused, waits_for_stop}
use Rattle.dap_plan.specs.Handling.{refusal}
use Rattle.dap_plan.specs.Handling.{effect_of, parked_wants_terminal, wants_terminal, plan_of_call, plan_of_command, plan_unless, plan_if_opened, plan_of_turn, some_plan, turn_of, turns}
use Rattle.dap_plan.specs.Lending.{after_lending, lends_unless, lending_refused, opened_in}
use Rattle.dap_plan.specs.Plan.{Plan, at_once, messages_due, plan_within_numbers}
use Rattle.dap_plan.specs.Session.{Session, oldest}
use Rattle.dap_decision.specs.Table.{effect_in, is_served, is_phase}
use Rattle.dap_plan.proofs.Fewer.{IsHandled}
use Rattle.dap_plan.proofs.Kept.{kept-found, found-passes}
use Rattle.dap_plan.proofs.Outcomes.{IsRow, failed-row, once-row}
use Rattle.dap_plan.proofs.Rows.{after_lending-outcome}
use Rattle.dap_plan.proofs.OwnRequests.{is-in, still-in, still-suits}
use Rattle.dap_plan.proofs.EffectRows.{Answers, effect-row}
use Rattle.dap_plan.proofs.Placed.{placed, still-placed, queries-no-setter}
use Rattle.dap_decision.proofs.ServedRows.{unserved}
use Rattle.dap_plan.proofs.ChangeResults.{call-suits}

-- ---- where no failure holds

-- the command is known
pub unknown-fails : (b : Bool) → first_failure (first_failure (when b NotInitialized ∷ None ∷ Some UnknownCommand ∷ None ∷ []) ∷ None ∷ []) ≡ None → ⊥
unknown-fails true h = cc
unknown-fails false h = cc

-- its arguments are read
pub badly-fails : (name : Option Failure) (f : Failure) (later : Option Failure) → or_else name (or_else (or_else (Some f) later) None) ≡ None → ⊥
badly-fails (Some g) f later h = cc
badly-fails None f later h = cc

-- and it is served
pub unserved-fails : (name : Option Failure) (waits : Bool) (call : Option Failure) → or_else name (or_else (or_else None (or_else (or_else (when (not waits) WrongPhase) (or_else (Some NotStopped) None)) call)) None) ≡ None → ⊥
unserved-fails (Some g) waits call h = cc
unserved-fails None true call h = cc
unserved-fails None false call h = cc

-- ---- the rows

set_variable-is : (o : Option Command) (c : Command) → o ≡ Some c → is_set_variable o ≡ true → c ≡ command.SetVariable
set_variable-is (Some command.SetVariable) c e h = cc
set_variable-is _ c e h = cc

-- a query answers no command that sets something
answers-if : (b : Bool) (d e : Effect) (r : Entry) → Answers d r → Answers e r → Answers (let x : Effect = (if b then d else e) in x) r
answers-if true d e r x y = x
answers-if false d e r x y = y

answers-so : (s : Session) (r : Entry) (c : Command) (e : Effect) → command_of r ≡ Some c → effect_in c s.phase ≡ Some e → Answers (effect_of s r e) r
answers-so s r c effect.Query o h = λ setter. queries-no-setter c s.phase h (set_variable-is (command_of r) c o setter)
answers-so s r c effect.Start o h = answers-if (wants_terminal s.options r) effect.Ask effect.Start r tt tt
answers-so s r c effect.StartParked o h = answers-if (parked_wants_terminal s.options s.kept) effect.AskParked effect.StartParked r tt tt
answers-so s r c _ o h = tt

served-row : (view : Shown) (s : Session) (k : Kept) (c : Command) (o : Option Effect) (read : Read Call) → IsHandled s k → command_of k.entry ≡ Some c → effect_in c s.phase ≡ o → call_in k.entry c ≡ read
    → first_failure (name_refused s.phase (Some c) ∷ first_failure (key_refused read ∷ phase_refused s.phase c ∷ read_refused view s.references read ∷ []) ∷ []) ≡ None → IsRow s (plan_of_call view s k.entry o read)
served-row view s k c (Some e) (Ok asked) i n h r none = (effect-row (effect_of s k.entry e) view s asked (still-suits s k.entry e asked (call-suits c s.phase k.entry.arguments e asked h r)) (still-in s k.entry e (is-in c s.phase e h)) (still-placed s k.entry e (placed c s.phase e h))).outcome k i (answers-so s k.entry c e n h)
served-row view s k c o (Err key) i n h r none = absurd (badly-fails (name_refused s.phase (Some c)) (BadArguments key) None none)
served-row view s k c None (Ok asked) i n h r none =
    let not_served : is_served c s.phase ≡ false = unserved s.phase c h in
    absurd (unserved-fails (name_refused s.phase (Some c)) (waits_for_stop s.phase c) (or_else (call_refused view s.references asked) None) (rw not_served at none))

command-row : (view : Shown) (s : Session) (k : Kept) (o : Option Command) → IsHandled s k → command_of k.entry ≡ o → first_failure (name_refused s.phase o ∷ known_refused view s.phase s.references k.entry o ∷ []) ≡ None → IsRow s (plan_of_command view s k.entry o)
command-row view s k None i n none = absurd (unknown-fails (is_phase Fresh s.phase && true) none)
command-row view s k (Some c) i n none = served-row view s k c (effect_in c s.phase) (call_in k.entry c) i n refl refl none

unless-row : (view : Shown) (s : Session) (k : Kept) (o : Option Failure) → IsHandled s k → refusal view s k.entry ≡ o → IsRow s (plan_unless o view s k.entry)
unless-row view s k (Some f) i h = failed-row s k f i
unless-row view s k None i h = command-row view s k (command_of k.entry) i refl h

-- a request that is lent, or not
unless-lent : (s : Session) (k : Kept) (o : Option Failure) → IsHandled s k → IsRow s (at_once (lends_unless o s k.entry))
unless-lent s k None i = once-row s 0 (after_lending s k.entry) (after_lending-outcome s k i) refl (λ first before h. h)
unless-lent s k (Some f) i = failed-row s k f i

opened-row : (view : Shown) (s : Session) (k : Kept) (o : Option Bool) → IsHandled s k → IsRow s (plan_if_opened o view s k.entry)
opened-row view s k None i = unless-row view s k (refusal view s k.entry) i refl
opened-row view s k (Some in_stops) i = unless-lent s k (lending_refused s k.entry in_stops) i

-- ---- a plan that is afforded

pub afforded : (b : Bool) (p q : Plan) (fault : AdapterFault) → (let given : Result Plan AdapterFault = (if b then Ok p else Err fault) in given) ≡ Ok q → (b ≡ true) × (q ≡ p)
afforded true p q fault e = (refl, cc)
afforded false p q fault e = cc

pub some-afforded : (given : Result Plan AdapterFault) (q : Plan) → some_plan given ≡ Ok (Some q) → given ≡ Ok q
some-afforded (Ok p) q e = cc
some-afforded (Err fault) q e = cc

pub le-of : (a b : ℕ) → nat_le a b ≡ true → a ≤ b
le-of a b h = grind (arith, nat_tests)

-- ---- the turn

pub not-parked : (b : Bool) → not b ≡ true → b ≡ false
not-parked true h = cc
not-parked false h = refl

-- a row, for which there are own numbers enough
pub record IsTurn (s : Session) (plan : Plan) : Type 0 where
  pub row : IsRow s plan
  pub room : s.used + messages_due plan ≤ s.limits.seq

turn-of : (view : Shown) (s : Session) (o : Option Kept) (plan : Plan) → oldest s.kept ≡ o → turn_of view s o ≡ Ok (Some plan) → IsTurn s plan
turn-of view s None plan is e = cc
turn-of view s (Some k) plan is e =
    let p = plan_of_turn view s k.entry in
    let given = afforded (nat_le (s.used + messages_due p) s.limits.seq) p plan _ (some-afforded (plan_within_numbers s p) plan e) in
    let handled : IsHandled s k = record { kept = kept-found (λ (x : Kept). not x.parked) s.kept k is; unparked = not-parked k.parked (found-passes (λ (x : Kept). not x.parked) s.kept k is) } in
    let row = opened-row view s k (opened_in s k.entry) handled in
    subst (λ (x : Plan). IsTurn s x) (sym given.1) (record { row = row; room = le-of (s.used + messages_due p) s.limits.seq given.0 })

pub turn-is : (view : Shown) (s : Session) (plan : Plan) → turns view s ≡ Ok (Some plan) → IsTurn s plan
turn-is view s plan e = turn-of view s (oldest s.kept) plan refl e

-- What a request is answered with is the first failure whose test holds, also once it is served.
use Rattle.std.proofs.Common.{◌≡◌, [], ◌∷◌, Bool, true, false, ◌&&◌, cond, Option, Some, None, Ok, Err, refl, sym, ap, ◌∙◌, subst}
use Rattle.std.specs.Prelude.{find}
use Rattle.dap_call.specs.Argument.{Read}
use Rattle.dap_body.specs.Failure.{failures_in_order}
use Rattle.dap_call.specs.declared.call.Call.{Call}
use Rattle.dap_command.specs.declared.command.Command.{Command}
use Rattle.dap_body.specs.declared.failure.Failure.{Failure}
use Rattle.dap_body.specs.declared.failure.Failure.TheVariants.{Debuggee, NotInitialized, AlreadyInitialized, UnknownCommand, Unsupported, BadArguments, WrongPhase, NotStopped, UnknownThread, StaleReference, UnknownSource}
use Rattle.dap_command.specs.declared.key.Key.{Key}
use Rattle.dap_tables.specs.declared.entry.Entry.{Entry}
use Rattle.dap_debuggee.specs.Shown.{Shown, Reply}
use Rattle.dap_debuggee.specs.declared.explanation.Explanation.{Explanation}
use Rattle.dap_decision.specs.declared.effect.Effect.{Effect}
use Rattle.dap_decision.specs.declared.phase.Phase.TheVariants.{Fresh}
use Rattle.dap_decision.specs.Failures.{command_of, call_in, call_refused, first_failure, key_refused, known_refused, name_refused, or_else, phase_refused, read_refused, waits_for_stop}
use Rattle.dap_plan.specs.Handling.{refusal}
use Rattle.dap_plan.specs.Handling.{effect_of, failing, plan, plan_of_call, plan_of_command, plan_unless}
use Rattle.dap_plan.specs.OrderLaws.{holds_before, holds, of_effect, of_served, refuses, sets_too_many, names_too_many, exhausts_numbers, is_too_large, act_in, act_of, comes_to, IsAnswered, IsServed, IsBadKey, FailuresComeInOrder, reason_of_effect, reason_of_served, failure_answer}
use Rattle.dap_plan.specs.Plan.{Plan, at_once, after_answering}
use Rattle.dap_outbox.specs.Draft.{Answer, failure}
use Rattle.dap_plan.specs.Session.{Session}
use Rattle.dap_decision.specs.Table.{effect_in, is_phase, is_served}
use Rattle.dap_plan.specs.Within.{IsWithin}
use Rattle.dap_plan.proofs.Ordered.{refusals_come_in_order}
use Rattle.dap_decision.proofs.ServedRows.{unserved}
use Rattle.dap_plan.proofs.ChangeResults.{call-suits}
use Rattle.dap_plan.proofs.OwnRequests.{is-in, still-in, still-suits, still-first, still-reason}
use Rattle.dap_plan.proofs.EffectRows.{effect-row}
use Rattle.dap_plan.proofs.Placed.{placed, still-placed}
use Rattle.dap_plan.proofs.ServedInOrder.{served_first}
use Rattle.dap_plan.proofs.Turns.{unknown-fails, badly-fails, unserved-fails}

-- ---- all tests

-- the tests before a request is served, and those after
behind : (a b c d e f g h i j : Bool) (key : Key) (later : Option Failure)
    → cond a (Some NotInitialized) (cond b (Some AlreadyInitialized) (cond c (Some UnknownCommand) (cond d (Some Unsupported) (cond e (Some (BadArguments key)) (cond f (Some WrongPhase) (cond g (Some NotStopped) (cond h (Some UnknownThread) (cond i (Some StaleReference) (cond j (Some UnknownSource) later)))))))))
    ≡ or_else (cond a (Some NotInitialized) (cond b (Some AlreadyInitialized) (cond c (Some UnknownCommand) (cond d (Some Unsupported) (cond e (Some (BadArguments key)) (cond f (Some WrongPhase) (cond g (Some NotStopped) (cond h (Some UnknownThread) (cond i (Some StaleReference) (cond j (Some UnknownSource) None)))))))))) later
behind true b c d e f g h i j key later = refl
behind false true c d e f g h i j key later = refl
behind false false true d e f g h i j key later = refl
behind false false false true e f g h i j key later = refl
behind false false false false true f g h i j key later = refl
behind false false false false false true g h i j key later = refl
behind false false false false false false true h i j key later = refl
behind false false false false false false false true i j key later = refl
behind false false false false false false false false true j key later = refl
behind false false false false false false false false false true key later = refl
behind false false false false false false false false false false key later = refl

abbrev later_first : Shown → Session → Entry → Option Command → Option Failure
later_first view s r o = served_first (of_served (refuses view s) s r o) (of_served (sets_too_many s) s r o) (of_served (names_too_many view s) s r o) (of_served (exhausts_numbers view s) s r o) (of_served (is_too_large view s r) s r o)

abbrev test_before : Shown → Session → Entry → Failure → Bool
test_before view s r f = holds_before view s (command_of r) (call_in r) f

all-tests : (view : Shown) (s : Session) (r : Entry) (key : Key) → IsBadKey r key → find (holds view s r) (failures_in_order key) ≡ or_else (refusal view s r) (later_first view s r (command_of r))
all-tests view s r key same =
    behind (test_before view s r NotInitialized) (test_before view s r AlreadyInitialized) (test_before view s r UnknownCommand) (test_before view s r Unsupported) (test_before view s r (BadArguments key)) (test_before view s r WrongPhase) (test_before view s r NotStopped) (test_before view s r UnknownThread) (test_before view s r StaleReference) (test_before view s r UnknownSource) key (later_first view s r (command_of r))
    ∙ ap (λ (o : Option Failure). or_else o (later_first view s r (command_of r))) (sym (refusals_come_in_order view s r key same))

-- ---- the first failure

call-first : (view : Shown) (s : Session) (r : Entry) (c : Command) (o : Option Effect) (read : Read Call) → effect_in c s.phase ≡ o → call_in r c ≡ read → IsWithin s
    → (f : Failure) → served_first (of_effect (refuses view s) o read) (of_effect (sets_too_many s) o read) (of_effect (names_too_many view s) o read) (of_effect (exhausts_numbers view s) o read) (of_effect (is_too_large view s r) o read) ≡ Some f → plan_of_call view s r o read ≡ at_once (after_answering r (failing s r f (reason_of_effect view s o read)) s)
call-first view s r c (Some e) (Ok asked) h i w f is =
    let row = effect-row (effect_of s r e) view s asked (still-suits s r e asked (call-suits c s.phase r.arguments e asked h i)) (still-in s r e (is-in c s.phase e h)) (still-placed s r e (placed c s.phase e h)) in
    (row.order r w).some f (still-first view s r e asked ∙ is) ∙ ap (λ (o : Option Explanation). at_once (after_answering r (failing s r f o) s)) (still-reason view s r e asked)
call-first view s r c (Some e) (Err key) h i w f is = absurd cc
call-first view s r c None read h i w f is = absurd cc

command-first : (view : Shown) (s : Session) (r : Entry) (o : Option Command) → IsWithin s → (f : Failure) → later_first view s r o ≡ Some f → plan_of_command view s r o ≡ at_once (after_answering r (failing s r f (reason_of_served view s r o)) s)
command-first view s r None w f is = absurd cc
command-first view s r (Some c) w f is = call-first view s r c (effect_in c s.phase) (call_in r c) refl refl w f is

-- no test before a request is served is the debuggee's: such a failure has no reason
never-explained : (a b c d e f g h i j : Bool) (key : Key) (s : Session) (r : Entry) (why : Option Explanation) (x : Failure)
    → cond a (Some NotInitialized) (cond b (Some AlreadyInitialized) (cond c (Some UnknownCommand) (cond d (Some Unsupported) (cond e (Some (BadArguments key)) (cond f (Some WrongPhase) (cond g (Some NotStopped) (cond h (Some UnknownThread) (cond i (Some StaleReference) (cond j (Some UnknownSource) None))))))))) ≡ Some x
    → failing s r x why ≡ failure x
never-explained a b c d e f g h i j key s r why Debuggee is = absurd (no-refusal a b c d e f g h i j is)
  where
    no-refusal : (a b c d e f g h i j : Bool) → cond a (Some NotInitialized) (cond b (Some AlreadyInitialized) (cond c (Some UnknownCommand) (cond d (Some Unsupported) (cond e (Some (BadArguments key)) (cond f (Some WrongPhase) (cond g (Some NotStopped) (cond h (Some UnknownThread) (cond i (Some StaleReference) (cond j (Some UnknownSource) None))))))))) ≡ Some Debuggee → ⊥
    no-refusal true b c d e f g h i j is = cc
    no-refusal false true c d e f g h i j is = cc
    no-refusal false false true d e f g h i j is = cc
    no-refusal false false false true e f g h i j is = cc
    no-refusal false false false false true f g h i j is = cc
    no-refusal false false false false false true g h i j is = cc
    no-refusal false false false false false false true h i j is = cc
    no-refusal false false false false false false false true i j is = cc
    no-refusal false false false false false false false false true j is = cc
    no-refusal false false false false false false false false false true is = cc
    no-refusal false false false false false false false false false false is = cc
never-explained a b c d e f g h i j key s r why _ is = refl

refused-plainly : (view : Shown) (s : Session) (r : Entry) (key : Key) → IsBadKey r key → (why : Option Explanation) (x : Failure) → refusal view s r ≡ Some x → failing s r x why ≡ failure x
refused-plainly view s r key same why x is =
    never-explained (test_before view s r NotInitialized) (test_before view s r AlreadyInitialized) (test_before view s r UnknownCommand) (test_before view s r Unsupported) (test_before view s r (BadArguments key)) (test_before view s r WrongPhase) (test_before view s r NotStopped) (test_before view s r UnknownThread) (test_before view s r StaleReference) (test_before view s r UnknownSource) key s r why x
    (sym (refusals_come_in_order view s r key same) ∙ is)

plan-first : (view : Shown) (s : Session) (r : Entry) (o : Option Failure) → ((x : Failure) → o ≡ Some x → failing s r x (reason_of_served view s r (command_of r)) ≡ failure x) → IsWithin s → (f : Failure) → or_else o (later_first view s r (command_of r)) ≡ Some f
    → plan_unless o view s r ≡ at_once (after_answering r (failure_answer view s r f) s)
plan-first view s r (Some g) plainly w f is =
    let same : g ≡ f = cc in
    ap (λ (a : Answer). at_once (after_answering r a s)) (sym (plainly g refl) ∙ ap (λ (x : Failure). failing s r x (reason_of_served view s r (command_of r))) same)
plan-first view s r None plainly w f is = command-first view s r (command_of r) w f is

-- ---- where none holds

both-none : (o later : Option Failure) → or_else o later ≡ None → (o ≡ None) × (later ≡ None)
both-none (Some f) later h = absurd cc
both-none None later h = (refl, h)

-- what comes of it, of the plan that it comes to
record ServesBy (view : Shown) (s : Session) (r : Entry) (c : Command) (p : Plan) (last : Reply) : Type 0 where
  asked : Call
  read : call_in r c ≡ Ok asked
  does : Effect
  is : effect_in c s.phase ≡ Some does
  asks : act_in p ≡ act_of (effect_of s r does) s asked
  answered : IsAnswered (effect_of s r does) s r last (comes_to p last)

call-serves : (view : Shown) (s : Session) (r : Entry) (c : Command) (o : Option Effect) (read : Read Call) → effect_in c s.phase ≡ o → call_in r c ≡ read → IsWithin s
    → first_failure (name_refused s.phase (Some c) ∷ first_failure (key_refused read ∷ phase_refused s.phase c ∷ read_refused view s.references read ∷ []) ∷ []) ≡ None
    → served_first (of_effect (refuses view s) o read) (of_effect (sets_too_many s) o read) (of_effect (names_too_many view s) o read) (of_effect (exhausts_numbers view s) o read) (of_effect (is_too_large view s r) o read) ≡ None
    → (last : Reply) → ServesBy view s r c (plan_of_call view s r o read) last
call-serves view s r c (Some e) (Ok asked) h i w none later last =
    let row = effect-row (effect_of s r e) view s asked (still-suits s r e asked (call-suits c s.phase r.arguments e asked h i)) (still-in s r e (is-in c s.phase e h)) (still-placed s r e (placed c s.phase e h)) in
    let well = (row.order r w).none (still-first view s r e asked ∙ later) in
    record { asked = asked; read = i; does = e; is = h; asks = well.asks; answered = well.answered last }
call-serves view s r c o (Err key) h i w none later last = absurd (badly-fails (name_refused s.phase (Some c)) (BadArguments key) None none)
call-serves view s r c None (Ok asked) h i w none later last =
    let not_served : is_served c s.phase ≡ false = unserved s.phase c h in
    absurd (unserved-fails (name_refused s.phase (Some c)) (waits_for_stop s.phase c) (or_else (call_refused view s.references asked) None) (rw not_served at none))

abbrev ServesPlan : Shown → Session → Entry → Option Command → Plan → Reply → Type 0
ServesPlan view s r o p last = (c : Command) × (o ≡ Some c) × ServesBy view s r c p last

command-serves : (view : Shown) (s : Session) (r : Entry) (o : Option Command) → IsWithin s → first_failure (name_refused s.phase o ∷ known_refused view s.phase s.references r o ∷ []) ≡ None → later_first view s r o ≡ None → (last : Reply) → ServesPlan view s r o (plan_of_command view s r o) last
command-serves view s r None w none later last = absurd (unknown-fails (is_phase Fresh s.phase && true) none)
command-serves view s r (Some c) w none later last = (c, refl, call-serves view s r c (effect_in c s.phase) (call_in r c) refl refl w none later last)

plan-serves : (view : Shown) (s : Session) (r : Entry) → IsWithin s → refusal view s r ≡ None → later_first view s r (command_of r) ≡ None → (last : Reply) → IsServed view s r last
plan-serves view s r w none later last =
    let by = command-serves view s r (command_of r) w none later last in
    let same : plan view s r ≡ plan_of_command view s r (command_of r) = ap (λ (o : Option Failure). plan_unless o view s r) none in
    record {
      command = by.0;
      known = by.1;
      asked = by.2.asked;
      read = by.2.read;
      does = by.2.does;
      is = by.2.is;
      asks = ap act_in same ∙ by.2.asks;
      answered = subst (λ (p : Plan). IsAnswered (effect_of s r by.2.does) s r last (comes_to p last)) (sym same) by.2.answered;
    }

pub failures_come_in_order : FailuresComeInOrder
failures_come_in_order = record {
  fails = λ view s r key same w f is. plan-first view s r (refusal view s r) (refused-plainly view s r key same (reason_of_served view s r (command_of r))) w f (sym (all-tests view s r key same) ∙ is);
  serves = λ view s r key same w none last.
      let both = both-none (refusal view s r) (later_first view s r (command_of r)) (sym (all-tests view s r key same) ∙ none) in
      plan-serves view s r w both.0 both.1 last;
}

-- The first test that holds, in two ways of writing it down.
use Rattle.std.proofs.Common.{◌≡◌, ◌&&◌, not, Bool, true, false, cond, [], ◌∷◌, Option, Some, None, Ok, Err, refl, ap}
use Rattle.std.specs.Prelude.{find}
use Rattle.dap_call.specs.Argument.{Read}
use Rattle.dap_body.specs.Failure.{failures_in_order}
use Rattle.dap_call.specs.declared.call.Call.{Call}
use Rattle.dap_command.specs.declared.command.Command.{Command}
use Rattle.dap_command.specs.declared.command.Command.TheVariants as command
use Rattle.dap_body.specs.declared.failure.Failure.{Failure}
use Rattle.dap_body.specs.declared.failure.Failure.TheVariants.{NotInitialized, AlreadyInitialized, UnknownCommand, Unsupported, BadArguments, WrongPhase, NotStopped, UnknownThread, StaleReference, UnknownSource}
use Rattle.dap_command.specs.declared.key.Key.{Key}
use Rattle.dap_tables.specs.declared.entry.Entry.{Entry}
use Rattle.dap_debuggee.specs.Shown.{Shown}
use Rattle.dap_decision.specs.declared.phase.Phase.{Phase}
use Rattle.dap_decision.specs.declared.phase.Phase.TheVariants.{Fresh, Running}
use Rattle.dap_decision.specs.Failures.{command_of, call_in, is_early, is_initialize, waits_for_stop, lacks_thread, thread_named, lacks_reference, reference_named, lacks_source, source_named, when, first_failure, name_refused, key_refused, phase_refused, read_refused, known_refused}
use Rattle.dap_plan.specs.OrderLaws.{holds_before, waits_to_be_served, RefusalsComeInOrder}
use Rattle.dap_plan.specs.Session.{Session}
use Rattle.dap_decision.specs.Table.{is_phase, is_served, is_never_served, is_of_stops}

unknown : (b : Bool) → first_failure (first_failure (when b NotInitialized ∷ None ∷ Some UnknownCommand ∷ None ∷ []) ∷ None ∷ []) ≡ cond b (Some NotInitialized) (Some UnknownCommand)
unknown true = refl
unknown false = refl

badly : (b c d : Bool) (bad key : Key) (later : Option Failure) → bad ≡ key
    → first_failure (first_failure (when b NotInitialized ∷ when c AlreadyInitialized ∷ None ∷ when d Unsupported ∷ []) ∷ first_failure (Some (BadArguments bad) ∷ later ∷ None ∷ []) ∷ [])
    ≡ cond b (Some NotInitialized) (cond c (Some AlreadyInitialized) (cond d (Some Unsupported) (Some (BadArguments key))))
badly true c d bad key later is = refl
badly false true d bad key later is = refl
badly false false true bad key later is = refl
badly false false false bad key later is = ap (λ k. Some (BadArguments k)) is

well : (b c d e f e2 f2 g h i : Bool) → (d ≡ false → e2 ≡ e) → (d ≡ false → e ≡ false → f2 ≡ f)
    → first_failure (first_failure (when b NotInitialized ∷ when c AlreadyInitialized ∷ None ∷ when d Unsupported ∷ []) ∷ first_failure (None ∷ first_failure (when e WrongPhase ∷ when f NotStopped ∷ []) ∷ first_failure (when g UnknownThread ∷ when h StaleReference ∷ when i UnknownSource ∷ []) ∷ []) ∷ [])
    ≡ cond b (Some NotInitialized) (cond c (Some AlreadyInitialized) (cond d (Some Unsupported) (cond e2 (Some WrongPhase) (cond f2 (Some NotStopped) (cond g (Some UnknownThread) (cond h (Some StaleReference) (cond i (Some UnknownSource) None)))))))
well true c d e f e2 f2 g h i wrong same = refl
well false true d e f e2 f2 g h i wrong same = refl
well false false true e f e2 f2 g h i wrong same = refl
well false false false true f e2 f2 g h i wrong same = rw (wrong refl) refl
well false false false false true e2 f2 g h i wrong same = rw (wrong refl, same refl refl) refl
well false false false false false e2 f2 true h i wrong same = rw (wrong refl, same refl refl) refl
well false false false false false e2 f2 false true i wrong same = rw (wrong refl, same refl refl) refl
well false false false false false e2 f2 false false true wrong same = rw (wrong refl, same refl refl) refl
well false false false false false e2 f2 false false false wrong same = rw (wrong refl, same refl refl) refl

-- what is served where the debuggee runs is not served in stops alone
runs-too : (c : Command) → is_served c Running ≡ true → is_of_stops c ≡ false
runs-too command.Initialize h = cc
runs-too _ h = cc

serves-now : (phase : Phase) (c : Command) → is_served c phase ≡ true → waits_for_stop phase c ≡ false
serves-now Running c h = runs-too c h
serves-now _ c h = refl

waits-then : (never served waits : Bool) → never ≡ false → (not served && not waits) ≡ false → (served ≡ true → waits ≡ false) → (not never && waits) ≡ not served
waits-then never true waits n e w = rw (n, w refl) refl
waits-then never false true n e w = rw n refl
waits-then never false false n e w = cc

by-read : (view : Shown) (s : Session) (key : Key) (c : Command) (read : Read Call) → ((bad : Key) → read ≡ Err bad → bad ≡ key)
    → first_failure (name_refused s.phase (Some c) ∷ first_failure (key_refused read ∷ phase_refused s.phase c ∷ read_refused view s.references read ∷ []) ∷ []) ≡ find (holds_before view s (Some c) (λ _. read)) (failures_in_order key)
by-read view s key c (Err bad) same = badly (is_phase Fresh s.phase && not (is_early c)) (is_initialize c && not (is_phase Fresh s.phase)) (is_never_served c) bad key (phase_refused s.phase c) (same bad refl)
by-read view s key c (Ok asked) same =
    well (is_phase Fresh s.phase && not (is_early c)) (is_initialize c && not (is_phase Fresh s.phase)) (is_never_served c)
    (not (is_served c s.phase) && not (waits_for_stop s.phase c)) (not (is_served c s.phase)) (not (is_served c s.phase) && not (waits_to_be_served s.phase c)) (waits_to_be_served s.phase c)
    (lacks_thread view (thread_named asked)) (lacks_reference s.references (reference_named asked)) (lacks_source view (source_named asked))
    (λ never. rw never refl)
    (λ never here. waits-then (is_never_served c) (is_served c s.phase) (waits_for_stop s.phase c) never here (serves-now s.phase c))

by-command : (view : Shown) (s : Session) (r : Entry) (key : Key) (o : Option Command) → ((c : Command) (bad : Key) → o ≡ Some c → call_in r c ≡ Err bad → bad ≡ key)
    → first_failure (name_refused s.phase o ∷ known_refused view s.phase s.references r o ∷ []) ≡ find (holds_before view s o (call_in r)) (failures_in_order key)
by-command view s r key None same = unknown (is_phase Fresh s.phase && true)
by-command view s r key (Some c) same = by-read view s key c (call_in r c) (λ bad is. same c bad refl is)

pub refusals_come_in_order : RefusalsComeInOrder
refusals_come_in_order view s r key same = by-command view s r key (command_of r) same

-- A served request of a stop whose number names nothing is refused for that alone.
use Rattle.std.proofs.Common.{◌≡◌, ℕ, Bool, true, false, not, ◌&&◌, [], ◌∷◌, Option, Some, None, refl, sym, ap, ◌∙◌, true≢false}
use Rattle.dap_call.specs.declared.call.Call.{Call}
use Rattle.dap_call.specs.declared.call.Call.TheVariants as call
use Rattle.dap_command.specs.declared.command.Command.{Command}
use Rattle.dap_command.specs.declared.command.Command.TheVariants as command
use Rattle.dap_body.specs.declared.failure.Failure.{Failure}
use Rattle.dap_body.specs.declared.failure.Failure.TheVariants.{WrongPhase, NotStopped, StaleReference}
use Rattle.dap_tables.specs.declared.entry.Entry.{Entry}
use Rattle.dap_tables.specs.declared.reference_kind.ReferenceKind.{ReferenceKind}
use Rattle.dap_tables.specs.References.{LiveReferences, target_of, is_of_kind}
use Rattle.dap_debuggee.specs.Shown.{Shown}
use Rattle.dap_decision.specs.declared.phase.Phase.TheVariants.{Stopped}
use Rattle.dap_decision.specs.Failures.{call_in, reference_named, lacks_reference, when, or_else, first_failure, name_refused, key_refused, phase_refused, call_refused, read_refused, known_refused, waits_for_stop}
use Rattle.dap_plan.specs.Handling.{refusal}
use Rattle.dap_plan.specs.Handling.{plan_unless}
use Rattle.dap_plan.specs.ReferenceLaws.{ReferencesAreApart}
use Rattle.dap_plan.specs.Session.{Session}
use Rattle.dap_plan.specs.StaleLaws.{AsksFor, IsStale, DeadNumbersAreStale}
use Rattle.dap_decision.specs.Table.{is_served}

-- its name is no reason
no-name : (c : Command) → is_served c Stopped ≡ true → name_refused Stopped (Some c) ≡ None
no-name command.Initialize h = absurd (true≢false (sym h))
no-name _ h = cc

-- nor is the phase
no-phase : (c : Command) → is_served c Stopped ≡ true → phase_refused Stopped c ≡ None
no-phase c h = ap (λ b. first_failure (when (not b && not (waits_for_stop Stopped c)) WrongPhase ∷ when (not b) NotStopped ∷ [])) h

lacks : (refs : LiveReferences) (o : Option (ReferenceKind × ℕ)) (kind : ReferenceKind) (n : ℕ) → o ≡ Some (kind, n) → is_of_kind kind (target_of refs n) ≡ false → lacks_reference refs o ≡ true
lacks refs o kind n is none = ap (lacks_reference refs) is ∙ ap not none

reason : (b : Bool) (later : Option Failure) → b ≡ true → or_else (when b StaleReference) later ≡ Some StaleReference
reason true later is = refl
reason false later is = absurd (true≢false (sym is))

-- what the call names is
by-call : (view : Shown) (refs : LiveReferences) (asked : Call) (kind : ReferenceKind) (n : ℕ) → reference_named asked ≡ Some (kind, n) → is_of_kind kind (target_of refs n) ≡ false → call_refused view refs asked ≡ Some StaleReference
by-call view refs (call.Scopes m) kind n is none = reason _ _ (lacks refs (reference_named (call.Scopes m)) kind n is none)
by-call view refs (call.Variables a) kind n is none = reason _ _ (lacks refs (reference_named (call.Variables a)) kind n is none)
by-call view refs (call.Evaluate a) kind n is none = reason _ _ (lacks refs (reference_named (call.Evaluate a)) kind n is none)
by-call view refs (call.SetVariable a) kind n is none = reason _ _ (lacks refs (reference_named (call.SetVariable a)) kind n is none)
by-call view refs (call.Completions a) kind n is none = reason _ _ (lacks refs (reference_named (call.Completions a)) kind n is none)
by-call view refs _ kind n is none = cc

refused : (view : Shown) (s : Session) (r : Entry) (kind : ReferenceKind) (n : ℕ) → AsksFor s r kind n → is_of_kind kind (target_of s.references n) ≡ false → refusal view s r ≡ Some StaleReference
refused view s r kind n asks none =
    ap (λ o. first_failure (name_refused s.phase o ∷ known_refused view s.phase s.references r o ∷ [])) asks.known
    ∙ ap (λ phase. first_failure (name_refused phase (Some asks.command) ∷ first_failure (key_refused (call_in r asks.command) ∷ phase_refused phase asks.command ∷ read_refused view s.references (call_in r asks.command) ∷ []) ∷ [])) asks.stopped
    ∙ ap (λ read. first_failure (name_refused Stopped (Some asks.command) ∷ first_failure (key_refused read ∷ phase_refused Stopped asks.command ∷ read_refused view s.references read ∷ []) ∷ [])) asks.good
    ∙ ap (λ o. first_failure (o ∷ first_failure (None ∷ phase_refused Stopped asks.command ∷ call_refused view s.references asks.asked ∷ []) ∷ [])) (no-name asks.command asks.served)
    ∙ ap (λ o. first_failure (None ∷ first_failure (None ∷ o ∷ call_refused view s.references asks.asked ∷ []) ∷ [])) (no-phase asks.command asks.served)
    ∙ ap (λ o. first_failure (None ∷ first_failure (None ∷ None ∷ o ∷ []) ∷ [])) (by-call view s.references asks.asked kind n asks.named none)

stale : (view : Shown) (s : Session) (r : Entry) (kind : ReferenceKind) (n : ℕ) → AsksFor s r kind n → is_of_kind kind (target_of s.references n) ≡ false → IsStale view s r
stale view s r kind n asks none = ap (λ o. plan_unless o view s r) (refused view s r kind n asks none)

pub dead_numbers_are_stale : ReferencesAreApart → DeadNumbersAreStale
dead_numbers_are_stale apart = record {
  nothing = stale;
  dead = λ view s r kind n asks died. stale view s r kind n asks (ap (is_of_kind kind) (apart.dead s.references n died));
  ever_after = λ s new made later n t step drops live runs view r kind asks. stale view new r kind n asks (ap (is_of_kind kind) (apart.stays_dead s new made later n t step drops live runs));
}

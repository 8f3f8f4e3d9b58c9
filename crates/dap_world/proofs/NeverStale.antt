-- Where all that a request uses is live, the adapter does not refuse it as `staleReference`.
use Rattle.std.proofs.Common.{◌≡◌, ℕ, List, [], ◌∷◌, Bool, true, false, Option, Some, None, Err, Ok, refl, sym, ap, ◌∙◌, true≢false}
use Rattle.std.specs.Prelude.{not, is_none, ◌&&◌, option_map}
use Rattle.std.specs.List.{AllByRecursion}
use Rattle.dap_client.specs.References.{optional_frame, references_used_by}
use Rattle.dap_call.specs.Argument.{Read}
use Rattle.dap_call.specs.declared.call.Call.{Call}
use Rattle.dap_call.specs.declared.call.Call.TheVariants as call
use Rattle.dap_command.specs.declared.command.Command.{Command}
use Rattle.dap_body.specs.declared.failure.Failure.{Failure}
use Rattle.dap_body.specs.declared.failure.Failure.TheVariants.{NotInitialized, AlreadyInitialized, UnknownCommand, Unsupported, BadArguments, WrongPhase, NotStopped, UnknownThread, StaleReference, UnknownSource}
use Rattle.dap_debuggee.specs.Shown.{Shown}
use Rattle.dap_decision.specs.Failures.{command_of, call_in, of_known, is_early, is_initialize, waits_for_stop, thread_named, reference_named, source_named, lacks_thread, lacks_reference, lacks_source, when, or_else, first_failure, key_refused, phase_refused, read_refused, known_refused}
use Rattle.dap_plan.specs.Handling.{refusal}
use Rattle.dap_query.specs.References.{AreLive}
use Rattle.dap_plan.specs.Session.{Session}
use Rattle.dap_decision.specs.Table.{is_phase, is_served, is_never_served}
use Rattle.dap_decision.specs.declared.phase.Phase.TheVariants.{Fresh}
use Rattle.dap_tables.specs.Outstanding.{Kept}
use Rattle.dap_tables.specs.References.{LiveReferences}
use Rattle.dap_tables.specs.declared.entry.Entry.{Entry}
use Rattle.dap_tables.specs.declared.reference_kind.ReferenceKind.{ReferenceKind}
use Rattle.dap_tables.specs.declared.reference_kind.ReferenceKind.TheVariants.{Frame, Holder}
use Rattle.dap_world.specs.MessageReferences.{references_used_by_read, references_used_in, references_used_by_request}

-- ---- what the client says that a call uses is what the adapter tests

named-live : (refs : LiveReferences) (kind : ReferenceKind) (number : ℕ) → AreLive refs ((kind, number) ∷ []) → lacks_reference refs (Some (kind, number)) ≡ false
named-live refs kind number h = ap not h.0

frame-live : (refs : LiveReferences) (frame : Option ℕ) → AreLive refs (optional_frame frame) → lacks_reference refs (option_map (λ number. (Frame, number)) frame) ≡ false
frame-live refs None h = refl
frame-live refs (Some number) h = named-live refs Frame number h

names-live : (refs : LiveReferences) (asked : Call) → AreLive refs (references_used_by asked) → lacks_reference refs (reference_named asked) ≡ false
names-live refs (call.Scopes number) h = named-live refs Frame number h
names-live refs (call.Variables a) h = named-live refs Holder a.variables_reference h
names-live refs (call.Evaluate a) h = frame-live refs a.frame_id h
names-live refs (call.SetVariable a) h = named-live refs Holder a.variables_reference h
names-live refs (call.Completions a) h = frame-live refs a.frame_id h
names-live refs _ h = refl

-- ---- no other test says so

past-phase : (a b : Bool) (later : Option Failure) → or_else (first_failure (when a WrongPhase ∷ when b NotStopped ∷ [])) later ≡ Some StaleReference → later ≡ Some StaleReference
past-phase true b later e = let clash : Some WrongPhase ≡ (let x : Option Failure = Some StaleReference in x) = e in cc
past-phase false true later e = let clash : Some NotStopped ≡ (let x : Option Failure = Some StaleReference in x) = e in cc
past-phase false false later e = e

lacks-so : (t l s : Bool) → or_else (first_failure (when t UnknownThread ∷ when l StaleReference ∷ when s UnknownSource ∷ [])) None ≡ Some StaleReference → l ≡ true
lacks-so true l s e = let clash : Some UnknownThread ≡ (let x : Option Failure = Some StaleReference in x) = e in cc
lacks-so false true s e = refl
lacks-so false false true e = let clash : Some UnknownSource ≡ (let x : Option Failure = Some StaleReference in x) = e in cc
lacks-so false false false e = let clash : None ≡ (let x : Option Failure = Some StaleReference in x) = e in cc

past-name : (a b c d : Bool) (later : Option Failure) → or_else (first_failure (when a NotInitialized ∷ when b AlreadyInitialized ∷ when c UnknownCommand ∷ when d Unsupported ∷ [])) later ≡ Some StaleReference → later ≡ Some StaleReference
past-name true b c d later e = let clash : Some NotInitialized ≡ (let x : Option Failure = Some StaleReference in x) = e in cc
past-name false true c d later e = let clash : Some AlreadyInitialized ≡ (let x : Option Failure = Some StaleReference in x) = e in cc
past-name false false true d later e = let clash : Some UnknownCommand ≡ (let x : Option Failure = Some StaleReference in x) = e in cc
past-name false false false true later e = let clash : Some Unsupported ≡ (let x : Option Failure = Some StaleReference in x) = e in cc
past-name false false false false later e = e

tail-of : (x : Option Failure) → or_else x None ≡ Some StaleReference → x ≡ Some StaleReference
tail-of None e = e
tail-of (Some f) e = e

module _ (view : Shown) (s : Session) where
  read-fresh : (c : Command) (asked : Read Call) → first_failure (key_refused asked ∷ phase_refused s.phase c ∷ read_refused view s.references asked ∷ []) ≡ Some StaleReference → AreLive s.references (references_used_by_read asked) → ⊥
  read-fresh c (Err key) e h = let clash : Some (BadArguments key) ≡ (let x : Option Failure = Some StaleReference in x) = e in cc
  read-fresh c (Ok asked) e h =
      let lacks : lacks_reference s.references (reference_named asked) ≡ true =
      lacks-so (lacks_thread view (thread_named asked)) (lacks_reference s.references (reference_named asked)) (lacks_source view (source_named asked))
      (past-phase (not (is_served c s.phase) && not (waits_for_stop s.phase c)) (not (is_served c s.phase)) _ e) in
      let has : lacks_reference s.references (reference_named asked) ≡ false = names-live s.references asked h in
      true≢false (sym lacks ∙ has)

  known-fresh : (r : Entry) (c : Option Command) → known_refused view s.phase s.references r c ≡ Some StaleReference → AreLive s.references (references_used_in c r.arguments) → ⊥
  known-fresh r None e h = let clash : None ≡ (let x : Option Failure = Some StaleReference in x) = e in cc
  known-fresh r (Some c) e h = read-fresh c (call_in r c) e h

  -- a request is not refused so
  never : (r : Entry) → AreLive s.references (references_used_by_request r) → refusal view s r ≡ Some StaleReference → ⊥
  never r h e =
      let c : Option Command = command_of r in
      known-fresh r c (tail-of (known_refused view s.phase s.references r c)
      (past-name (is_phase Fresh s.phase && not (of_known is_early c)) (of_known is_initialize c && not (is_phase Fresh s.phase)) (is_none c) (of_known is_never_served c) (or_else (known_refused view s.phase s.references r c) None) e)) h

  pub never-stale : (ks : List Kept) → AllByRecursion (λ k. AreLive s.references (references_used_by_request k.entry)) ks → AllByRecursion (λ k. refusal view s k.entry ≡ Some StaleReference → ⊥) ks
  never-stale [] h = tt
  never-stale (k ∷ ks) h = (never k.entry h.0, never-stale ks h.1)

-- Worked examples of failures with why the debuggee refused, each shown by computation.
use Rattle.std.proofs.Common.{◌≡◌, List, [], ◌∷◌, true, false, codes, Some, None, pos, refl}
use Rattle.std.specs.Prelude.{◌+◌, ◌&&◌}
use Rattle.dap_frame.specs.Settings.{usual_settings}
use Rattle.dap_outbox.specs.Outbox.{explanation_fits_as}
use Rattle.dap_body.specs.declared.failure.Failure.{Failure}
use Rattle.dap_body.specs.declared.failure.Failure.TheVariants.{Debuggee, TooLarge, StaleReference}
use Rattle.dap_call.specs.declared.call.Call.TheVariants as call
use Rattle.dap_command.specs.declared.source_key.SourceKey.TheVariants.{Reference}
use Rattle.dap_debuggee.specs.Shown.{done, refused, for_frames, for_value, for_content, for_verified}
use Rattle.dap_debuggee.specs.declared.explanation.Explanation.{Explanation}
use Rattle.dap_outbox.specs.Draft.{explained, failure, failure_in, plain_success}
use Rattle.dap_tables.specs.Outstanding.{Kept}
use Rattle.dap_tables.specs.declared.entry.Entry.{Entry}
use Rattle.dap_plan.specs.Handling.{by_reply, by_reply_each, explained_if, failing, query_asked, query_before}
use Rattle.dap_plan.specs.Session.{Session, fresh_session}

abbrev session : Session
session = fresh_session usual_settings

with_its_reason : (told : Explanation) → (explained_if true told ≡ explained told) × (explained_if false told ≡ failure Debuggee)
with_its_reason told = (refl, refl)

-- where nothing is said each failure is as it was
without_a_reason : (s : Session) (r : Entry) (f : Failure) → failing s r f None ≡ failure f
without_a_reason s r Debuggee = refl
without_a_reason s r _ = refl

-- no other failure has one
of_no_other : (s : Session) (r : Entry) (told : Explanation) → (failing s r TooLarge (Some told) ≡ failure TooLarge) × (failing s r StaleReference (Some told) ≡ failure StaleReference)
of_no_other s r told = (refl, refl)

still_that_failure : (told : Explanation) → failure_in (explained told) ≡ Some Debuggee
still_that_failure told = refl

-- ---- what is queried

frames : query_asked session (call.StackTrace (record { thread_id = pos 7; start_frame = 1; levels = 2 })) ≡ Some (for_frames (pos 7))
frames = refl

in_no_frame : query_asked session (call.Evaluate (record { expression = codes "x"; frame_id = None })) ≡ Some (for_value None (codes "x"))
in_no_frame = refl

-- sources are numbered from 1
content : query_asked session (call.Source 3) ≡ Some (for_content 2)
content = refl

-- a number that names nothing is no query
of_nothing : (query_asked session (call.Scopes 1) ≡ None) × (query_asked session (call.Variables (record { variables_reference = 1; start = 0; count = 0 })) ≡ None) × (query_before session (call.SetVariable (record { variables_reference = 1; name = codes "x"; value = codes "1" })) ≡ None)
of_nothing = (refl, refl, refl)

-- nor is one that is never refused
never_refused : (query_asked session call.Threads ≡ None) × (query_asked session call.LoadedSources ≡ None) × (query_before session call.Threads ≡ None)
never_refused = (refl, refl, refl)

verified : (query_before session (call.SetBreakpoints (Reference 1) (2 ∷ 3 ∷ [])) ≡ Some (for_verified (Reference 1) (2 ∷ 3 ∷ []))) × (query_asked session (call.SetBreakpoints (Reference 1) (2 ∷ [])) ≡ None)
verified = (refl, refl)

-- ---- acts

-- it is measured with the number that comes next
of_an_act : (s : Session) (r : Entry) (told : Explanation) → by_reply s r (refused (Some told)) ≡ explained_if (explanation_fits_as (s.used + 1) s.limits.body r told) told
of_an_act s r told = refl

-- what is done has none, and where none is given each answer is as it was
without_a_reason_too : (s : Session) (r : Entry) (parked : List Kept) → (by_reply s r done ≡ plain_success) × (by_reply s r (refused None) ≡ failure Debuggee) × (by_reply_each s parked done ≡ plain_success) × (by_reply_each s parked (refused None) ≡ failure Debuggee)
without_a_reason_too s r parked = (refl, refl, refl, refl)

-- in each of them with the greatest own number
of_what_is_parked : (s : Session) (one other : Kept) (told : Explanation) → by_reply_each s (one ∷ other ∷ []) (refused (Some told)) ≡ explained_if (explanation_fits_as s.limits.seq s.limits.body one.entry told && (explanation_fits_as s.limits.seq s.limits.body other.entry told && true)) told
of_what_is_parked s one other told = refl

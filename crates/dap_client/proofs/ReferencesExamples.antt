-- Worked examples of the references that a client knows, each shown by computation.
use Rattle.std.proofs.Common.{◌≡◌, List, [], ◌∷◌, ◌++◌, length, true, false, Some, None, codes, refl, pos}
use Rattle.std.specs.Fmt.{digits}
use Rattle.std.specs.Str.{is_utf8, chars}
use Rattle.json.specs.Print.{escape_byte}
use Rattle.serde_json.proofs.OnLiterals.{serde_json_on_literals}
use Rattle.dap_json.specs.Read.{json_of}
use Rattle.dap_frame.specs.Settings.{usual_settings, settings}
use Rattle.dap_call.specs.CallTree.{initialize_members, stack_trace_members, evaluate_members, variables_members}
use Rattle.dap_envelope.specs.Canon.{canon, tree_of, request_members}
use Rattle.dap_call.specs.declared.call.Call.TheVariants as call
use Rattle.dap_tables.specs.declared.reference_kind.ReferenceKind.TheVariants.{Frame, Holder}
use Rattle.dap_client.specs.declared.fault.ClientFault.TheVariants.{ReferenceLimit}
use Rattle.dap_client.specs.declared.fault.SendFault.TheVariants.{UnknownReference}
use Rattle.dap_client.proofs.Played.{At, Step, sends, run, fresh_at, success, success_with, failure, event, event_with, initialized, stopped, stack_trace, variables, evaluate}

-- ---- room for one reference

abbrev one_reference : At
one_reference = fresh_at (settings 8192 4194304 64 1 4096 9007199254740991 2147483647)

abbrev two_frames : List Step
two_frames = stopped ++ sends stack_trace ∷ success_with 2 (codes "stackTrace") (codes "{\"stackFrames\":[{\"id\":1},{\"id\":2}]}") ∷ []

too_many : ((run two_frames one_reference).end.fault ≡ Some ReferenceLimit)
    × (length (run two_frames one_reference).end.session.seen.known ≡ 0)
    × (length (run two_frames one_reference).end.session.outstanding ≡ 1)
unfolding canon tree_of request_members initialize_members stack_trace_members escape_byte digits json_of is_utf8 chars serde_json_on_literals
too_many = (refl, refl, refl)

-- ---- what is given, and when it ends

abbrev at_first : At
at_first = fresh_at usual_settings

abbrev frames : List Step
frames = stopped ++ sends stack_trace ∷ success_with 2 (codes "stackTrace") (codes "{\"stackFrames\":[{\"id\":1},{\"id\":4},{\"id\":1},{\"id\":-1}]}") ∷ []

-- each once, and what is no number is passed over
given : (run frames at_first).end.session.seen.known ≡ (Frame, 1) ∷ (Frame, 4) ∷ []
unfolding canon tree_of request_members initialize_members stack_trace_members escape_byte digits json_of is_utf8 chars serde_json_on_literals
given = refl

-- a frame is no holder
kinds : ((run (frames ++ sends (call.Scopes 4) ∷ []) at_first).refused ≡ None)
    × ((run (frames ++ sends (variables 4) ∷ []) at_first).refused ≡ Some UnknownReference)
    × ((run (frames ++ sends (evaluate (codes "x") (Some 2)) ∷ []) at_first).refused ≡ Some UnknownReference)
    × ((run (frames ++ sends (evaluate (codes "x") None) ∷ []) at_first).refused ≡ None)
unfolding canon tree_of request_members initialize_members stack_trace_members evaluate_members variables_members escape_byte digits json_of is_utf8 chars serde_json_on_literals
kinds = (refl, refl, refl, refl)

abbrev scopes : List Step
scopes = frames ++ sends (call.Scopes 1) ∷ sends (call.Next (pos 1)) ∷ success_with 3 (codes "scopes") (codes "{\"scopes\":[{\"variablesReference\":0},{\"variablesReference\":7}]}") ∷ []

-- also while the answer to `next` is awaited; 0 is none
given_while_resuming : (run scopes at_first).end.session.seen.known ≡ (Frame, 1) ∷ (Frame, 4) ∷ (Holder, 7) ∷ []
unfolding canon tree_of request_members initialize_members stack_trace_members escape_byte digits json_of is_utf8 chars serde_json_on_literals
given_while_resuming = refl

-- its success ends them, its failure does not; the event `stopped` ends them too
ends : ((run (scopes ++ success 4 (codes "next") ∷ []) at_first).end.session.seen.known ≡ [])
    × (length (run (scopes ++ failure 4 (codes "next") ∷ []) at_first).end.session.seen.known ≡ 3)
    × ((run (scopes ++ event (codes "stopped") ∷ []) at_first).end.session.seen.known ≡ [])
    × ((run (scopes ++ event (codes "terminated") ∷ []) at_first).end.session.seen.known ≡ [])
unfolding canon tree_of request_members initialize_members stack_trace_members escape_byte digits json_of is_utf8 chars serde_json_on_literals
ends = (refl, refl, refl, refl)

-- what comes after the debuggee went on gives none
too_late : (run (stopped ++ sends stack_trace ∷ event (codes "continued") ∷ success_with 2 (codes "stackTrace") (codes "{\"stackFrames\":[{\"id\":1}]}") ∷ []) at_first).end.session.seen.known ≡ []
unfolding canon tree_of request_members initialize_members stack_trace_members escape_byte digits json_of is_utf8 chars serde_json_on_literals
too_late = refl

-- ---- what the adapter offers

updated : ((run (initialized ++ event_with (codes "capabilities") (codes "{\"capabilities\":{\"supportsStepBack\":false,\"supportsModulesRequest\":true}}") ∷ []) at_first).end.session.seen.capabilities.step_back ≡ false)
    × ((run (initialized ++ event_with (codes "capabilities") (codes "{\"capabilities\":{\"supportsStepBack\":false,\"supportsModulesRequest\":true}}") ∷ []) at_first).end.session.seen.capabilities.modules ≡ true)
    × ((run (initialized ++ event (codes "capabilities") ∷ []) at_first).end.session.seen.capabilities ≡ (run initialized at_first).end.session.seen.capabilities)
unfolding canon tree_of request_members initialize_members escape_byte digits json_of is_utf8 chars serde_json_on_literals
updated = (refl, refl, refl)

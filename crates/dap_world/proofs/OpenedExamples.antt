-- Worked examples of an adapter whose holder answers commands of its own, tells events and asks the client, each shown by computation.
use Rattle.std.proofs.Common.{◌≡◌, ℕ, List, [], ◌∷◌, ◌++◌, map, true, false, Option, Some, None, codes, refl}
use Rattle.std.specs.Fmt.{digits}
use Rattle.std.specs.Str.{is_utf8, chars}
use Rattle.json.specs.Print.{escape_byte}
use Rattle.serde_json.proofs.OnLiterals.{serde_json_on_literals}
use Rattle.dap_json.specs.Read.{json_of}
use Rattle.dap_frame.specs.Settings.{Settings, usual_settings, settings}
use Rattle.dap_call.specs.Call.{initialize_of, cancel_of, thread_of, completions_of}
use Rattle.dap_command.specs.Offer.{usual_offer}
use Rattle.dap_command.specs.declared.opening.Opened.{Opened}
use Rattle.dap_envelope.specs.Canon.{canon, tree_of, request_members, response_members, event_members}
use Rattle.dap_envelope.specs.declared.message.Kind.TheVariants.{Response}
use Rattle.dap_message.specs.MessageParts.{success_response, failure_response}
use Rattle.dap_message.specs.declared.outcome.Outcome.{Outcome}
use Rattle.dap_message.specs.declared.outcome.Outcome.TheVariants.{Success, Failure}
use Rattle.dap_body.specs.declared.failure.Failure.TheVariants.{NotInitialized, WrongPhase, NotStopped, Busy, Cancelled}
use Rattle.dap_outbox.specs.Waiting.{lent_ones}
use Rattle.dap_plan.specs.declared.fault.AdapterFault.{AdapterFault}
use Rattle.dap_plan.specs.declared.fault.AdapterFault.TheVariants.{Unmatched, CommandMismatch}
use Rattle.dap_plan.specs.declared.fault.AskFault.{AskFault}
use Rattle.dap_plan.specs.declared.fault.AskFault.TheVariants as ask_fault
use Rattle.dap_plan.specs.declared.fault.EmitFault.{EmitFault}
use Rattle.dap_plan.specs.declared.fault.EmitFault.TheVariants as emit_fault
use Rattle.dap_plan.specs.declared.fault.RespondFault.{RespondFault}
use Rattle.dap_plan.specs.declared.fault.RespondFault.TheVariants.{NotLent}
use Rattle.dap_decision.specs.declared.phase.Phase.{Phase}
use Rattle.dap_decision.specs.declared.phase.Phase.TheVariants.{Running, Stopped, Ended}
use Rattle.dap_plan.specs.Asking.{ask_faults, first_ask_fault}
use Rattle.dap_plan.specs.Emitting.{emit_faults, first_emit_fault}
use Rattle.dap_plan.specs.Handling.{plan_for}
use Rattle.dap_plan.specs.Polling.{after_happening}
use Rattle.dap_plan.specs.Responding.{first_respond_fault, respond_faults}
use Rattle.dap_plan.specs.Session.{opened_session}
use Rattle.dap_replay.specs.Played.{fresh_played}
use Rattle.dap_world.proofs.PlayedSessions.{At, Calls, comes, turn, poll, responds_to, tells, asks, run, recording_a, request, request_with, texts_of, initialized, written_after}

-- ---- words of the examples

-- `completions` is of stops alone, `mine` is not
abbrev opened : List Opened
opened = record { name = codes "completions"; in_stops = true } ∷ record { name = codes "mine"; in_stops = false } ∷ []

abbrev opened_at : Settings → At
opened_at limits = record { session = opened_session limits (record usual_offer { opened = opened }); view = record { refuses = false; inner = fresh_played recording_a }; written = []; fault = None }

abbrev at_first : At
at_first = opened_at usual_settings

-- so many requests are kept at most
abbrev with_places : ℕ → At
with_places n = opened_at (settings 8192 4194304 n 65536 4096 9007199254740991 2147483647)

-- six messages are written, and the debuggee stands at its entry
abbrev stopped : List Calls
stopped = initialized ++ request 2 (codes "launch") ∷ turn ∷ request 3 (codes "configurationDone") ∷ turn ∷ poll ∷ poll ∷ []

abbrev completes : ℕ → List Calls
completes seq = request_with seq (codes "completions") (codes "{\"column\":3,\"text\":\"to\"}") ∷ turn ∷ []

abbrev mine : ℕ → List Calls
mine seq = request seq (codes "mine") ∷ turn ∷ []

abbrev targets : Outcome
targets = Success (json_of (codes "{\"targets\":[{\"label\":\"total\"}]}"))

abbrev plain : Outcome
plain = Success None

abbrev lent_after : List Calls → At → List ℕ
lent_after calls at = map (λ k. k.entry.seq) (lent_ones (run calls at).session.kept)

abbrev kept_after : List Calls → At → List ℕ
kept_after calls at = map (λ k. k.entry.seq) (run calls at).session.kept

-- the numbers of the requests that wait for a response of the client
abbrev own_after : List Calls → At → List ℕ
own_after calls at = map (λ k. k.entry.seq) (run calls at).session.own

abbrev phase_after : List Calls → At → Phase
phase_after calls at = (run calls at).session.phase

abbrev fault_after : List Calls → At → Option AdapterFault
fault_after calls at = (run calls at).fault

abbrev why_not_responded : ℕ → Outcome → List Calls → At → Option RespondFault
why_not_responded seq o calls at = first_respond_fault respond_faults seq o false (run calls at).session

abbrev why_not_told : List ℕ → List Calls → At → Option EmitFault
why_not_told name calls at = first_emit_fault emit_faults name None false (run calls at).session

abbrev why_not_asked : List ℕ → List Calls → At → Option AskFault
why_not_asked command calls at = first_ask_fault ask_faults command None false (run calls at).session

-- ---- lent, and answered

lent : (lent_after (stopped ++ completes 4) at_first ≡ 4 ∷ []) × (kept_after (stopped ++ completes 4) at_first ≡ 4 ∷ []) × (written_after 6 (run (stopped ++ completes 4) at_first) ≡ [])
unfolding plan_for after_happening completions_of initialize_of json_of is_utf8 chars serde_json_on_literals
lent = (refl, refl, refl)

answered : texts_of (written_after 6 (run (stopped ++ completes 4 ++ responds_to 4 targets ∷ []) at_first))
    ≡ codes "{\"body\":{\"targets\":[{\"label\":\"total\"}]},\"command\":\"completions\",\"request_seq\":4,\"seq\":7,\"success\":true,\"type\":\"response\"}" ∷ []
unfolding canon tree_of request_members response_members event_members escape_byte digits plan_for after_happening completions_of initialize_of json_of is_utf8 chars serde_json_on_literals
answered = refl

kept_no_more : (kept_after (stopped ++ completes 4 ++ responds_to 4 targets ∷ []) at_first ≡ []) × (phase_after (stopped ++ completes 4 ++ responds_to 4 targets ∷ []) at_first ≡ Stopped)
unfolding canon tree_of request_members response_members event_members escape_byte digits plan_for after_happening completions_of initialize_of json_of is_utf8 chars serde_json_on_literals
kept_no_more = (refl, refl)

-- a second answer is refused, and changes nothing
answered_once : (why_not_responded 4 plain (stopped ++ completes 4 ++ responds_to 4 targets ∷ []) at_first ≡ Some NotLent)
    × (written_after 7 (run (stopped ++ completes 4 ++ responds_to 4 targets ∷ responds_to 4 plain ∷ []) at_first) ≡ [])
unfolding canon tree_of request_members response_members event_members escape_byte digits plan_for after_happening completions_of initialize_of json_of is_utf8 chars serde_json_on_literals
answered_once = (refl, refl)

-- two, in the other order
abbrev two : List Calls
two = initialized ++ mine 2 ++ mine 3

other_order : (lent_after two at_first ≡ 2 ∷ 3 ∷ []) × (lent_after (two ++ responds_to 3 plain ∷ []) at_first ≡ 2 ∷ [])
    × (written_after 2 (run (two ++ responds_to 3 plain ∷ responds_to 2 plain ∷ []) at_first) ≡ success_response 3 3 (codes "mine") None ∷ success_response 4 2 (codes "mine") None ∷ [])
unfolding canon tree_of request_members response_members event_members escape_byte digits plan_for completions_of initialize_of json_of is_utf8 chars serde_json_on_literals
other_order = (refl, refl, refl)

-- with words of its holder
failed : texts_of (written_after 2 (run (initialized ++ mine 2 ++ responds_to 2 (Failure (codes "notNow") None) ∷ []) at_first))
    ≡ codes "{\"command\":\"mine\",\"message\":\"notNow\",\"request_seq\":2,\"seq\":3,\"success\":false,\"type\":\"response\"}" ∷ []
unfolding canon tree_of request_members response_members event_members escape_byte digits plan_for completions_of initialize_of json_of is_utf8 chars serde_json_on_literals
failed = refl

-- ---- cancelled, and at the end

cancelled : (written_after 6 (run (stopped ++ completes 4 ++ request_with 5 (codes "cancel") (codes "{\"requestId\":4}") ∷ []) at_first) ≡ failure_response 7 4 (codes "completions") Cancelled ∷ success_response 8 5 (codes "cancel") None ∷ [])
    × (why_not_responded 4 targets (stopped ++ completes 4 ++ request_with 5 (codes "cancel") (codes "{\"requestId\":4}") ∷ []) at_first ≡ Some NotLent)
unfolding plan_for after_happening cancel_of completions_of initialize_of json_of is_utf8 chars serde_json_on_literals
cancelled = (refl, refl)

disconnected : (written_after 2 (run (two ++ request 4 (codes "disconnect") ∷ turn ∷ []) at_first)
    ≡ failure_response 3 2 (codes "mine") Cancelled ∷ failure_response 4 3 (codes "mine") Cancelled ∷ success_response 5 4 (codes "disconnect") None ∷ [])
    × (kept_after (two ++ request 4 (codes "disconnect") ∷ turn ∷ []) at_first ≡ []) × (phase_after (two ++ request 4 (codes "disconnect") ∷ turn ∷ []) at_first ≡ Ended)
unfolding plan_for completions_of initialize_of json_of is_utf8 chars serde_json_on_literals
disconnected = (refl, refl, refl)

-- ---- two places stay free

abbrev three : List Calls
three = two ++ mine 4

busy_at_the_third : (written_after 2 (run three (with_places 4)) ≡ failure_response 3 4 (codes "mine") Busy ∷ []) × (lent_after three (with_places 4) ≡ 2 ∷ 3 ∷ []) × (lent_after three (with_places 5) ≡ 2 ∷ 3 ∷ 4 ∷ [])
unfolding plan_for completions_of initialize_of json_of is_utf8 chars serde_json_on_literals
busy_at_the_third = (refl, refl, refl)

-- ---- what a lent request leaves as it is

-- it blocks no later one, and outlives its stop
abbrev resumed : List Calls
resumed = stopped ++ completes 4 ++ request_with 5 (codes "continue") (codes "{\"threadId\":1}") ∷ turn ∷ []

outlives_its_stop : (phase_after resumed at_first ≡ Running) × (lent_after resumed at_first ≡ 4 ∷ []) × (kept_after (resumed ++ responds_to 4 plain ∷ []) at_first ≡ [])
    × (written_after 7 (run (resumed ++ responds_to 4 plain ∷ []) at_first) ≡ success_response 8 4 (codes "completions") None ∷ [])
unfolding canon tree_of request_members response_members event_members escape_byte digits plan_for after_happening thread_of completions_of initialize_of json_of is_utf8 chars serde_json_on_literals
outlives_its_stop = (refl, refl, refl, refl)

-- one of stops alone is refused in each other state, and each before `initialize`
refused : (written_after 0 (run (mine 1) at_first) ≡ failure_response 1 1 (codes "mine") NotInitialized ∷ []) × (written_after 2 (run (initialized ++ completes 2) at_first) ≡ failure_response 3 2 (codes "completions") WrongPhase ∷ [])
    × (written_after 7 (run (resumed ++ completes 6) at_first) ≡ failure_response 8 6 (codes "completions") NotStopped ∷ [])
unfolding plan_for after_happening thread_of completions_of initialize_of json_of is_utf8 chars serde_json_on_literals
refused = (refl, refl, refl)

-- ---- events

told_by_name : texts_of (written_after 2 (run (initialized ++ tells (codes "module") (json_of (codes "{\"reason\":\"new\"}")) ∷ []) at_first)) ≡ codes "{\"body\":{\"reason\":\"new\"},\"event\":\"module\",\"seq\":3,\"type\":\"event\"}" ∷ []
unfolding canon tree_of request_members response_members event_members escape_byte digits plan_for completions_of initialize_of json_of is_utf8 chars serde_json_on_literals
told_by_name = refl

not_told : (why_not_told (codes "stopped") initialized at_first ≡ Some emit_fault.Reserved) × (why_not_told (codes "module") [] at_first ≡ Some emit_fault.WrongPhase) × (why_not_told (codes "module") (two ++ request 4 (codes "disconnect") ∷ turn ∷ []) at_first ≡ Some emit_fault.WrongPhase)
    × (written_after 2 (run (initialized ++ tells (codes "stopped") None ∷ []) at_first) ≡ [])
unfolding plan_for after_happening completions_of initialize_of json_of is_utf8 chars serde_json_on_literals
not_told = (refl, refl, refl, refl)

-- ---- requests to the client

abbrev debugs : List Calls
debugs = initialized ++ asks (codes "startDebugging") (json_of (codes "{\"configuration\":{},\"request\":\"launch\"}")) ∷ asks (codes "mine") None ∷ []

abbrev from_client : ℕ → List ℕ → Calls
from_client request_seq command = comes (record { seq = 2; kind = Response request_seq true command None None })

asked_by_name : texts_of (written_after 2 (run debugs at_first))
    ≡ codes "{\"arguments\":{\"configuration\":{},\"request\":\"launch\"},\"command\":\"startDebugging\",\"seq\":3,\"type\":\"request\"}" ∷ codes "{\"command\":\"mine\",\"seq\":4,\"type\":\"request\"}" ∷ []
unfolding canon tree_of request_members response_members event_members escape_byte digits plan_for completions_of initialize_of json_of is_utf8 chars serde_json_on_literals
asked_by_name = refl

-- in any order; each once, and by its own command
answered_by_the_client : (own_after debugs at_first ≡ 3 ∷ 4 ∷ []) × (own_after (debugs ++ from_client 4 (codes "mine") ∷ []) at_first ≡ 3 ∷ []) × (own_after (debugs ++ from_client 4 (codes "mine") ∷ from_client 3 (codes "startDebugging") ∷ []) at_first ≡ [])
    × (written_after 4 (run (debugs ++ from_client 4 (codes "mine") ∷ []) at_first) ≡ []) × (fault_after (debugs ++ from_client 4 (codes "mine") ∷ from_client 4 (codes "mine") ∷ []) at_first ≡ Some (Unmatched 4))
    × (fault_after (debugs ++ from_client 3 (codes "mine") ∷ []) at_first ≡ Some (CommandMismatch 3))
unfolding canon tree_of request_members response_members event_members escape_byte digits plan_for completions_of initialize_of json_of is_utf8 chars serde_json_on_literals
answered_by_the_client = (refl, refl, refl, refl, refl, refl)

-- a place is left for a terminal; none is asked before `initialize`, nor at the end
not_asked : (why_not_asked (codes "mine") [] at_first ≡ Some ask_fault.WrongPhase) × (why_not_asked (codes "mine") debugs (with_places 3) ≡ Some ask_fault.Full) × (why_not_asked (codes "mine") debugs (with_places 4) ≡ None)
    × (why_not_asked (codes "mine") (two ++ request 4 (codes "disconnect") ∷ turn ∷ []) at_first ≡ Some ask_fault.WrongPhase)
unfolding canon tree_of request_members response_members event_members escape_byte digits plan_for completions_of initialize_of json_of is_utf8 chars serde_json_on_literals
not_asked = (refl, refl, refl, refl)

-- a response is taken after the end too
late_response : (own_after (debugs ++ request 5 (codes "disconnect") ∷ turn ∷ []) at_first ≡ 3 ∷ 4 ∷ []) × (own_after (debugs ++ request 5 (codes "disconnect") ∷ turn ∷ from_client 3 (codes "startDebugging") ∷ []) at_first ≡ 4 ∷ [])
unfolding canon tree_of request_members response_members event_members escape_byte digits plan_for completions_of initialize_of json_of is_utf8 chars serde_json_on_literals
late_response = (refl, refl)

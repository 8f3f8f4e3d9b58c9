-- Worked examples of a session's life, each shown by computation: what is written call by call, and what is left.
use Rattle.std.proofs.Common.{◌≡◌, ℕ, List, [], ◌∷◌, ◌++◌, length, map, true, false, Some, None, codes, refl}
use Rattle.std.specs.Fmt.{digits}
use Rattle.std.specs.Str.{is_utf8, chars}
use Rattle.json.specs.Print.{escape_byte}
use Rattle.serde_json.proofs.OnLiterals.{serde_json_on_literals}
use Rattle.dap_json.specs.Read.{json_of}
use Rattle.dap_frame.specs.Settings.{usual_settings, settings}
use Rattle.dap_call.specs.Call.{initialize_of, thread_of, stack_trace_of, cancel_of}
use Rattle.dap_envelope.specs.Canon.{canon, tree_of, response_members, event_members}
use Rattle.dap_message.specs.MessageParts.{success_response, failure_response}
use Rattle.dap_body.specs.declared.failure.Failure.TheVariants.{NotInitialized, AlreadyInitialized, UnknownCommand, Unsupported, BadArguments, WrongPhase, Debuggee, Cancelled}
use Rattle.dap_command.specs.declared.key.Key.TheVariants.{ThreadId, RequestId}
use Rattle.dap_envelope.specs.declared.message.Kind.TheVariants.{Response, Event}
use Rattle.dap_plan.specs.declared.fault.AdapterFault.TheVariants.{RepeatedSeq, SeqExhausted, Unmatched, Ended}
use Rattle.dap_decision.specs.declared.phase.Phase.TheVariants.{Configured, Running, Stopped, Exited, Ended as EndedPhase}
use Rattle.dap_query.specs.Bodies.{query_result}
use Rattle.dap_plan.specs.Handling.{plan_for}
use Rattle.dap_plan.specs.Polling.{after_happening}
use Rattle.dap_plan.specs.Session.{to_handle}
use Rattle.dap_world.proofs.PlayedSessions.{At, Calls, comes, turn, poll, run, fresh_at, request, request_with, texts_of, initialized, written_after}

abbrev at_first : At
at_first = fresh_at usual_settings false

-- ---- before and at initialize

too_early : texts_of (run (request 1 (codes "threads") ∷ turn ∷ []) at_first).written
    ≡ codes "{\"body\":{\"error\":{\"format\":\"The session is not initialized.\",\"id\":1001}},\"command\":\"threads\",\"message\":\"notInitialized\",\"request_seq\":1,\"seq\":1,\"success\":false,\"type\":\"response\"}" ∷ []
unfolding canon tree_of response_members event_members escape_byte digits plan_for
too_early = refl

what_is_offered : texts_of (run initialized at_first).written
    ≡ codes "{\"body\":{\"supportsCancelRequest\":true,\"supportsConfigurationDoneRequest\":true,\"supportsLoadedSourcesRequest\":true,\"supportsSetVariable\":true,\"supportsStepBack\":true,\"supportsTerminateRequest\":true},\"command\":\"initialize\",\"request_seq\":1,\"seq\":1,\"success\":true,\"type\":\"response\"}"
    ∷ codes "{\"event\":\"initialized\",\"seq\":2,\"type\":\"event\"}" ∷ []
unfolding canon tree_of response_members event_members escape_byte digits plan_for initialize_of json_of is_utf8 chars serde_json_on_literals
what_is_offered = refl

-- 278 bytes of it are the first answer
bytes_of_the_first_answer : map length (texts_of (run initialized at_first).written) ≡ 278 ∷ 46 ∷ []
unfolding canon tree_of response_members event_members escape_byte digits plan_for initialize_of json_of is_utf8 chars serde_json_on_literals
bytes_of_the_first_answer = refl

-- ---- room for two requests: one is parked, one answered `busy`

abbrev two_kept : At
two_kept = fresh_at (settings 8192 4194304 2 65536 4096 9007199254740991 2147483647) false

abbrev full : List Calls
full = initialized ++ request 2 (codes "launch") ∷ turn ∷ request 3 (codes "threads") ∷ request 4 (codes "loadedSources") ∷ []

busy : texts_of (written_after 2 (run full two_kept))
    ≡ codes "{\"body\":{\"error\":{\"format\":\"Too many requests are waiting.\",\"id\":1011}},\"command\":\"loadedSources\",\"message\":\"busy\",\"request_seq\":4,\"seq\":3,\"success\":false,\"type\":\"response\"}" ∷ []
unfolding canon tree_of response_members event_members escape_byte digits plan_for initialize_of json_of is_utf8 chars serde_json_on_literals
busy = refl

busy_is_not_kept : length (run full two_kept).session.kept ≡ 2
unfolding plan_for initialize_of json_of is_utf8 chars serde_json_on_literals
busy_is_not_kept = refl

-- the launch is parked, so one of the two waits to be handled; a turn more, and none does
abbrev after_full : List Calls → ℕ × ℕ
after_full more = let s = (run (full ++ more) two_kept).session in (length s.kept, to_handle s.kept)

parked_waits_for_no_turn : (after_full [] ≡ (2, 1)) × (after_full (turn ∷ []) ≡ (1, 0))
unfolding canon tree_of response_members event_members escape_byte digits plan_for query_result initialize_of json_of is_utf8 chars serde_json_on_literals
parked_waits_for_no_turn = (refl, refl)

-- configurationDone is answered first, then the parked launch
parked_is_answered_last : texts_of (written_after 3 (run (full ++ turn ∷ request 5 (codes "configurationDone") ∷ turn ∷ []) two_kept))
    ≡ codes "{\"body\":{\"threads\":[]},\"command\":\"threads\",\"request_seq\":3,\"seq\":4,\"success\":true,\"type\":\"response\"}"
    ∷ codes "{\"command\":\"configurationDone\",\"request_seq\":5,\"seq\":5,\"success\":true,\"type\":\"response\"}"
    ∷ codes "{\"command\":\"launch\",\"request_seq\":2,\"seq\":6,\"success\":true,\"type\":\"response\"}" ∷ []
unfolding canon tree_of response_members event_members escape_byte digits plan_for query_result initialize_of json_of is_utf8 chars serde_json_on_literals
parked_is_answered_last = refl

none_is_kept_then : (run (full ++ turn ∷ request 5 (codes "configurationDone") ∷ turn ∷ []) two_kept).session.kept ≡ []
unfolding canon tree_of response_members event_members escape_byte digits plan_for query_result initialize_of json_of is_utf8 chars serde_json_on_literals
none_is_kept_then = refl

-- ---- cancel

cancel_of_a_kept_request : texts_of (written_after 2 (run (initialized ++ request 2 (codes "threads") ∷ request_with 3 (codes "cancel") (codes "{\"requestId\":2}") ∷ []) at_first))
    ≡ codes "{\"body\":{\"error\":{\"format\":\"The request was cancelled.\",\"id\":1012}},\"command\":\"threads\",\"message\":\"cancelled\",\"request_seq\":2,\"seq\":3,\"success\":false,\"type\":\"response\"}"
    ∷ codes "{\"command\":\"cancel\",\"request_seq\":3,\"seq\":4,\"success\":true,\"type\":\"response\"}" ∷ []
unfolding canon tree_of response_members event_members escape_byte digits plan_for cancel_of initialize_of json_of is_utf8 chars serde_json_on_literals
cancel_of_a_kept_request = refl

cancelled_is_not_kept : (run (initialized ++ request 2 (codes "threads") ∷ request_with 3 (codes "cancel") (codes "{\"requestId\":2}") ∷ []) at_first).session.kept ≡ []
unfolding plan_for cancel_of initialize_of json_of is_utf8 chars serde_json_on_literals
cancelled_is_not_kept = refl

-- of the parked launch, of a request that is not kept, of none
cancel_alone : written_after 2 (run (initialized ++ request 2 (codes "launch") ∷ turn ∷ request_with 3 (codes "cancel") (codes "{\"requestId\":2}") ∷ request_with 4 (codes "cancel") (codes "{\"requestId\":9}") ∷ request 5 (codes "cancel") ∷ []) at_first)
    ≡ success_response 3 3 (codes "cancel") None ∷ success_response 4 4 (codes "cancel") None ∷ success_response 5 5 (codes "cancel") None ∷ []
unfolding plan_for cancel_of initialize_of json_of is_utf8 chars serde_json_on_literals
cancel_alone = refl

cancel_refused : (written_after 2 (run (initialized ++ request_with 2 (codes "cancel") (codes "{\"requestId\":\"x\"}") ∷ []) at_first) ≡ failure_response 3 2 (codes "cancel") (BadArguments RequestId) ∷ [])
    × ((run (request_with 1 (codes "cancel") (codes "{\"requestId\":\"x\"}") ∷ []) at_first).written ≡ failure_response 1 1 (codes "cancel") NotInitialized ∷ [])
unfolding plan_for cancel_of initialize_of json_of is_utf8 chars serde_json_on_literals
cancel_refused = (refl, refl)

-- ---- disconnect

abbrev farewell : List Calls
farewell = initialized ++ request 2 (codes "launch") ∷ turn ∷ request 3 (codes "disconnect") ∷ request 4 (codes "threads") ∷ request 5 (codes "loadedSources") ∷ turn ∷ []

disconnect_answers_all : written_after 2 (run farewell at_first)
    ≡ failure_response 3 2 (codes "launch") Cancelled ∷ failure_response 4 4 (codes "threads") Cancelled ∷ failure_response 5 5 (codes "loadedSources") Cancelled ∷ success_response 6 3 (codes "disconnect") None ∷ []
unfolding plan_for initialize_of json_of is_utf8 chars serde_json_on_literals
disconnect_answers_all = refl

-- then a turn is idle, another message has no effect, and a request closes the end
after_disconnect : ((run (farewell ++ turn ∷ comes (record { seq = 9; kind = Event (codes "x") None }) ∷ []) at_first).fault ≡ None)
    × ((run (farewell ++ request 6 (codes "threads") ∷ []) at_first).fault ≡ Some Ended)
    × ((run farewell at_first).session.phase ≡ EndedPhase)
unfolding plan_for initialize_of json_of is_utf8 chars serde_json_on_literals
after_disconnect = (refl, refl, refl)

-- ---- a run

abbrev stopped_at_first : List Calls
stopped_at_first = initialized ++ request 2 (codes "launch") ∷ turn ∷ request 3 (codes "configurationDone") ∷ turn ∷ poll ∷ poll ∷ []

abbrev whole_run : List Calls
whole_run = stopped_at_first ++ request_with 4 (codes "continue") (codes "{\"threadId\":1}") ∷ turn ∷ poll ∷ request_with 5 (codes "stackTrace") (codes "{\"threadId\":1}") ∷ turn ∷ request_with 6 (codes "pause") (codes "{\"threadId\":1}") ∷ turn ∷ poll ∷ request_with 7 (codes "continue") (codes "{\"threadId\":1}") ∷ turn ∷ poll ∷ []

a_run : texts_of (written_after 2 (run whole_run at_first))
    ≡ codes "{\"command\":\"configurationDone\",\"request_seq\":3,\"seq\":3,\"success\":true,\"type\":\"response\"}"
    ∷ codes "{\"command\":\"launch\",\"request_seq\":2,\"seq\":4,\"success\":true,\"type\":\"response\"}"
    ∷ codes "{\"body\":{\"category\":\"stdout\",\"output\":\"go\\n\"},\"event\":\"output\",\"seq\":5,\"type\":\"event\"}"
    ∷ codes "{\"body\":{\"allThreadsStopped\":true,\"reason\":\"entry\",\"threadId\":1},\"event\":\"stopped\",\"seq\":6,\"type\":\"event\"}"
    ∷ codes "{\"body\":{\"allThreadsContinued\":true},\"command\":\"continue\",\"request_seq\":4,\"seq\":7,\"success\":true,\"type\":\"response\"}"
    ∷ codes "{\"body\":{\"error\":{\"format\":\"The debuggee is not stopped.\",\"id\":1006}},\"command\":\"stackTrace\",\"message\":\"notStopped\",\"request_seq\":5,\"seq\":8,\"success\":false,\"type\":\"response\"}"
    ∷ codes "{\"command\":\"pause\",\"request_seq\":6,\"seq\":9,\"success\":true,\"type\":\"response\"}"
    ∷ codes "{\"body\":{\"allThreadsStopped\":true,\"reason\":\"pause\",\"threadId\":1},\"event\":\"stopped\",\"seq\":10,\"type\":\"event\"}"
    ∷ codes "{\"body\":{\"allThreadsContinued\":true},\"command\":\"continue\",\"request_seq\":7,\"seq\":11,\"success\":true,\"type\":\"response\"}"
    ∷ codes "{\"body\":{\"exitCode\":0},\"event\":\"exited\",\"seq\":12,\"type\":\"event\"}"
    ∷ codes "{\"event\":\"terminated\",\"seq\":13,\"type\":\"event\"}" ∷ []
unfolding canon tree_of response_members event_members escape_byte digits plan_for after_happening initialize_of thread_of stack_trace_of json_of is_utf8 chars serde_json_on_literals
a_run = refl

terminate : texts_of (written_after 6 (run (stopped_at_first ++ request 4 (codes "terminate") ∷ turn ∷ request 5 (codes "threads") ∷ turn ∷ []) at_first))
    ≡ codes "{\"command\":\"terminate\",\"request_seq\":4,\"seq\":7,\"success\":true,\"type\":\"response\"}"
    ∷ codes "{\"event\":\"terminated\",\"seq\":8,\"type\":\"event\"}"
    ∷ codes "{\"body\":{\"threads\":[]},\"command\":\"threads\",\"request_seq\":5,\"seq\":9,\"success\":true,\"type\":\"response\"}" ∷ []
unfolding canon tree_of response_members event_members escape_byte digits plan_for query_result after_happening initialize_of json_of is_utf8 chars serde_json_on_literals
terminate = refl

phases_of_a_run : ((run stopped_at_first at_first).session.phase ≡ Stopped) × ((run whole_run at_first).session.phase ≡ Exited)
    × ((run (stopped_at_first ++ request 4 (codes "terminate") ∷ turn ∷ []) at_first).session.phase ≡ Exited)
unfolding plan_for after_happening initialize_of thread_of stack_trace_of json_of is_utf8 chars serde_json_on_literals
phases_of_a_run = (refl, refl, refl)

-- ---- three own numbers

abbrev three_numbers : At
three_numbers = fresh_at (settings 8192 4194304 64 65536 4096 3 2147483647) false

no_number_left : ((run (initialized ++ request 2 (codes "threads") ∷ turn ∷ request 3 (codes "loadedSources") ∷ turn ∷ []) three_numbers).fault ≡ Some SeqExhausted)
    × (length (run (initialized ++ request 2 (codes "threads") ∷ turn ∷ request 3 (codes "loadedSources") ∷ turn ∷ []) three_numbers).session.kept ≡ 1)
    × (length (run (initialized ++ request 2 (codes "threads") ∷ turn ∷ request 3 (codes "loadedSources") ∷ turn ∷ []) three_numbers).written ≡ 3)
unfolding canon tree_of response_members event_members escape_byte digits plan_for query_result initialize_of json_of is_utf8 chars serde_json_on_literals
no_number_left = (refl, refl, refl)

-- initialize takes two
one_number : (run initialized (fresh_at (settings 8192 4194304 64 65536 4096 1 2147483647) false)).fault ≡ Some SeqExhausted
unfolding plan_for initialize_of json_of is_utf8 chars serde_json_on_literals
one_number = refl

-- ---- failures

failures_in_order : written_after 2 (run (initialized ++ request 2 (codes "initialize") ∷ turn ∷ request 3 (codes "foo") ∷ turn ∷ request 4 (codes "restart") ∷ turn ∷ request_with 5 (codes "next") (codes "{}") ∷ turn ∷ request_with 6 (codes "next") (codes "{\"threadId\":1}") ∷ turn ∷ []) at_first)
    ≡ failure_response 3 2 (codes "initialize") AlreadyInitialized ∷ failure_response 4 3 (codes "foo") UnknownCommand ∷ failure_response 5 4 (codes "restart") Unsupported ∷ failure_response 6 5 (codes "next") (BadArguments ThreadId) ∷ failure_response 7 6 (codes "next") WrongPhase ∷ []
unfolding plan_for initialize_of thread_of json_of is_utf8 chars serde_json_on_literals
failures_in_order = refl

-- a debuggee that refuses its first start
abbrev refused_once : List Calls
refused_once = initialized ++ request 2 (codes "configurationDone") ∷ turn ∷ request 3 (codes "launch") ∷ turn ∷ []

a_second_start : (written_after 2 (run refused_once (fresh_at usual_settings true)) ≡ success_response 3 2 (codes "configurationDone") None ∷ failure_response 4 3 (codes "launch") Debuggee ∷ [])
    × ((run refused_once (fresh_at usual_settings true)).session.phase ≡ Configured)
    × (written_after 4 (run (refused_once ++ request 4 (codes "launch") ∷ turn ∷ []) (fresh_at usual_settings true)) ≡ success_response 5 4 (codes "launch") None ∷ [])
    × ((run (refused_once ++ request 4 (codes "launch") ∷ turn ∷ []) (fresh_at usual_settings true)).session.phase ≡ Running)
unfolding plan_for initialize_of json_of is_utf8 chars serde_json_on_literals
a_second_start = (refl, refl, refl, refl)

-- ---- what closes the end

repeated_seq : (run (request 1 (codes "initialize") ∷ request 1 (codes "initialize") ∷ []) at_first).fault ≡ Some (RepeatedSeq 1)
repeated_seq = refl

-- also of a cancel, and against the parked launch
repeated_by_cancel : (run (initialized ++ request 2 (codes "launch") ∷ turn ∷ request 2 (codes "cancel") ∷ []) at_first).fault ≡ Some (RepeatedSeq 2)
unfolding plan_for initialize_of json_of is_utf8 chars serde_json_on_literals
repeated_by_cancel = refl

unmatched : (run (comes (record { seq = 1; kind = Response 7 true (codes "x") None None }) ∷ []) at_first).fault ≡ Some (Unmatched 7)
unmatched = refl

-- Worked examples of an adapter that asks the client for a terminal, each shown by computation: what is written call by call, and what is left.
use Rattle.std.proofs.Common.{◌≡◌, ℕ, List, [], ◌∷◌, ◌++◌, length, map, Bool, true, false, Option, Some, None, codes, refl}
use Rattle.std.specs.Fmt.{digits}
use Rattle.std.specs.Str.{is_utf8, chars}
use Rattle.json.specs.Print.{escape_byte}
use Rattle.serde_json.proofs.OnLiterals.{serde_json_on_literals}
use Rattle.dap_json.specs.Read.{json_of}
use Rattle.dap_frame.specs.Settings.{usual_settings, settings}
use Rattle.dap_call.specs.Call.{initialize_of, thread_of, stack_trace_of, cancel_of, given_lines, set_breakpoints_of, set_exception_breakpoints_of, source_parts}
use Rattle.dap_envelope.specs.Canon.{canon, tree_of, request_members, response_members, event_members}
use Rattle.dap_call.specs.Terminal.{terminal_members}
use Rattle.dap_message.specs.MessageParts.{success_response, failure_response}
use Rattle.dap_body.specs.declared.failure.Failure.TheVariants.{AlreadyInitialized, Unsupported, UnknownCommand, BadArguments, WrongPhase, Debuggee, Cancelled}
use Rattle.dap_command.specs.declared.key.Key.TheVariants.{AdapterId, Arguments}
use Rattle.dap_envelope.specs.declared.message.Kind.TheVariants.{Response}
use Rattle.dap_debuggee.specs.declared.answers.State.{State}
use Rattle.dap_debuggee.specs.declared.answers.State.TheVariants.{NotStarted, Running as IsRunning}
use Rattle.dap_plan.specs.declared.fault.AdapterFault.{AdapterFault}
use Rattle.dap_plan.specs.declared.fault.AdapterFault.TheVariants.{Unmatched, CommandMismatch, SeqExhausted, Ended}
use Rattle.dap_decision.specs.declared.phase.Phase.{Phase}
use Rattle.dap_decision.specs.declared.phase.Phase.TheVariants.{Ready, Configured, Parked, Asked, Running, Stopped, Ended as EndedPhase}
use Rattle.dap_query.specs.Bodies.{query_result}
use Rattle.dap_plan.specs.Handling.{plan_for}
use Rattle.dap_plan.specs.Polling.{after_happening}
use Rattle.dap_plan.specs.Session.{own_requests}
use Rattle.dap_world.proofs.PlayedSessions.{At, Calls, comes, turn, poll, run, fresh_at, request, request_with, texts_of, initialized, written_after}

-- ---- words of the examples

-- the client runs terminals
abbrev announced : List Calls
announced = request_with 1 (codes "initialize") (codes "{\"adapterID\":\"rec\",\"supportsRunInTerminalRequest\":true}") ∷ turn ∷ []

abbrev launch_in : ℕ → List ℕ → Calls
launch_in seq arguments = request_with seq (codes "launch") arguments

abbrev in_terminal : ℕ → Calls
in_terminal seq = launch_in seq (codes "{\"console\":\"terminal\"}")

abbrev answered_as : ℕ → List ℕ → Calls
answered_as request_seq command = comes (record { seq = 4; kind = Response request_seq true command None (json_of (codes "{}")) })

-- the client has run it
abbrev terminal_ok : ℕ → Calls
terminal_ok request_seq = answered_as request_seq (codes "runInTerminal")

-- or it has not
abbrev terminal_no : ℕ → Calls
terminal_no request_seq = comes (record { seq = 4; kind = Response request_seq false (codes "runInTerminal") (Some (codes "terminalRefused")) (json_of (codes "{\"error\":{\"format\":\"The terminal refused.\",\"id\":1018}}")) })

abbrev at_first : At
at_first = fresh_at usual_settings false

-- with so many own numbers
abbrev with_numbers : ℕ → At
with_numbers n = fresh_at (settings 8192 4194304 64 65536 4096 n 2147483647) false

abbrev fault_after : List Calls → At → Option AdapterFault
fault_after calls at = (run calls at).fault

abbrev phase_after : List Calls → At → Phase
phase_after calls at = (run calls at).session.phase

-- the numbers of the requests that are kept, and which of them are parked
abbrev kept_after : List Calls → At → List (ℕ × Bool)
kept_after calls at = map (λ k. (k.entry.seq, k.parked)) (run calls at).session.kept

abbrev asked_after : List Calls → At → Option ℕ
asked_after calls at = (run calls at).session.asked

-- how far the debuggee is
abbrev debuggee_after : List Calls → At → State
debuggee_after calls at = (run calls at).view.inner.state

-- the launch 2 waits for the answer to the own request 4, and nothing came behind it
abbrev Waits : List Calls → At → Type 0
Waits calls at = (phase_after calls at ≡ Asked) × (kept_after calls at ≡ (2, true) ∷ []) × (asked_after calls at ≡ Some 4) × (length (run calls at).written ≡ 4) × (debuggee_after calls at ≡ NotStarted)

-- ---- a launch that waits for `configurationDone`

abbrev waits : List Calls
waits = announced ++ in_terminal 2 ∷ request 3 (codes "configurationDone") ∷ turn ∷ turn ∷ []

-- it is not answered, and nothing is asked before
parked_first : (written_after 2 (run (announced ++ in_terminal 2 ∷ turn ∷ []) at_first) ≡ []) × (phase_after (announced ++ in_terminal 2 ∷ turn ∷ []) at_first ≡ Parked)
    × (kept_after (announced ++ in_terminal 2 ∷ turn ∷ []) at_first ≡ (2, true) ∷ []) × (asked_after (announced ++ in_terminal 2 ∷ turn ∷ []) at_first ≡ None)
unfolding plan_for initialize_of json_of is_utf8 chars serde_json_on_literals
parked_first = (refl, refl, refl, refl)

asks_behind_the_answer : texts_of (written_after 2 (run waits at_first))
    ≡ codes "{\"command\":\"configurationDone\",\"request_seq\":3,\"seq\":3,\"success\":true,\"type\":\"response\"}"
    ∷ codes "{\"arguments\":{\"args\":[\"recorded\"],\"cwd\":\"/\",\"kind\":\"integrated\",\"title\":\"recorded\"},\"command\":\"runInTerminal\",\"seq\":4,\"type\":\"request\"}" ∷ []
unfolding canon tree_of request_members response_members event_members terminal_members escape_byte digits plan_for initialize_of json_of is_utf8 chars serde_json_on_literals
asks_behind_the_answer = refl

launch_waits : Waits waits at_first
unfolding plan_for initialize_of json_of is_utf8 chars serde_json_on_literals
launch_waits = (refl, refl, refl, refl, refl)

-- ---- the response

-- a success lets the debuggee start
abbrev started : List Calls
started = waits ++ terminal_ok 4 ∷ []

whole_run : texts_of (written_after 4 (run (started ++ poll ∷ poll ∷ []) at_first))
    ≡ codes "{\"command\":\"launch\",\"request_seq\":2,\"seq\":5,\"success\":true,\"type\":\"response\"}"
    ∷ codes "{\"body\":{\"category\":\"stdout\",\"output\":\"go\\n\"},\"event\":\"output\",\"seq\":6,\"type\":\"event\"}"
    ∷ codes "{\"body\":{\"allThreadsStopped\":true,\"reason\":\"entry\",\"threadId\":1},\"event\":\"stopped\",\"seq\":7,\"type\":\"event\"}" ∷ []
unfolding canon tree_of request_members response_members event_members escape_byte digits plan_for after_happening initialize_of json_of is_utf8 chars serde_json_on_literals
whole_run = refl

answered_by_the_same_call : (written_after 4 (run started at_first) ≡ success_response 5 2 (codes "launch") None ∷ []) × (phase_after started at_first ≡ Running)
    × (kept_after started at_first ≡ []) × (asked_after started at_first ≡ None) × (debuggee_after started at_first ≡ IsRunning)
unfolding plan_for initialize_of json_of is_utf8 chars serde_json_on_literals
answered_by_the_same_call = (refl, refl, refl, refl, refl)

stopped_then : phase_after (started ++ poll ∷ poll ∷ []) at_first ≡ Stopped
unfolding plan_for after_happening initialize_of json_of is_utf8 chars serde_json_on_literals
stopped_then = refl

-- a failure fails the launch
abbrev failed : List Calls
failed = waits ++ terminal_no 4 ∷ []

terminal_refused : (written_after 4 (run failed at_first) ≡ failure_response 5 2 (codes "launch") Debuggee ∷ []) × (phase_after failed at_first ≡ Configured)
    × (kept_after failed at_first ≡ []) × (asked_after failed at_first ≡ None) × (debuggee_after failed at_first ≡ NotStarted)
unfolding plan_for initialize_of json_of is_utf8 chars serde_json_on_literals
terminal_refused = (refl, refl, refl, refl, refl)

-- a launch after that asks again, with a number of its own
abbrev asked_again : List Calls
asked_again = failed ++ in_terminal 4 ∷ turn ∷ []

asks_again : (texts_of (written_after 5 (run asked_again at_first)) ≡ codes "{\"arguments\":{\"args\":[\"recorded\"],\"cwd\":\"/\",\"kind\":\"integrated\",\"title\":\"recorded\"},\"command\":\"runInTerminal\",\"seq\":6,\"type\":\"request\"}" ∷ [])
    × (phase_after asked_again at_first ≡ Asked) × (kept_after asked_again at_first ≡ (4, true) ∷ []) × (asked_after asked_again at_first ≡ Some 6)
unfolding canon tree_of request_members response_members event_members terminal_members escape_byte digits plan_for initialize_of json_of is_utf8 chars serde_json_on_literals
asks_again = (refl, refl, refl, refl)

-- and the number before it is answered for good
old_number_is_unmatched : (fault_after (asked_again ++ terminal_ok 4 ∷ []) at_first ≡ Some (Unmatched 4)) × (written_after 6 (run (asked_again ++ terminal_ok 6 ∷ []) at_first) ≡ success_response 7 4 (codes "launch") None ∷ [])
unfolding plan_for initialize_of json_of is_utf8 chars serde_json_on_literals
old_number_is_unmatched = (refl, refl)

-- a debuggee that refuses its first start, in a terminal that there is
refused_start : (written_after 4 (run started (fresh_at usual_settings true)) ≡ failure_response 5 2 (codes "launch") Debuggee ∷ [])
    × (phase_after started (fresh_at usual_settings true) ≡ Configured) × (asked_after started (fresh_at usual_settings true) ≡ None)
    × (written_after 6 (run (started ++ in_terminal 4 ∷ turn ∷ terminal_ok 6 ∷ []) (fresh_at usual_settings true)) ≡ success_response 7 4 (codes "launch") None ∷ [])
    × (phase_after (started ++ in_terminal 4 ∷ turn ∷ terminal_ok 6 ∷ []) (fresh_at usual_settings true) ≡ Running)
unfolding plan_for initialize_of json_of is_utf8 chars serde_json_on_literals
refused_start = (refl, refl, refl, refl, refl)

-- ---- a launch after `configurationDone`

abbrev configured : List Calls
configured = announced ++ request 2 (codes "configurationDone") ∷ turn ∷ in_terminal 3 ∷ turn ∷ []

asks_at_once : texts_of (written_after 2 (run configured at_first))
    ≡ codes "{\"command\":\"configurationDone\",\"request_seq\":2,\"seq\":3,\"success\":true,\"type\":\"response\"}"
    ∷ codes "{\"arguments\":{\"args\":[\"recorded\"],\"cwd\":\"/\",\"kind\":\"integrated\",\"title\":\"recorded\"},\"command\":\"runInTerminal\",\"seq\":4,\"type\":\"request\"}" ∷ []
unfolding canon tree_of request_members response_members event_members terminal_members escape_byte digits plan_for initialize_of json_of is_utf8 chars serde_json_on_literals
asks_at_once = refl

launch_is_parked_then : (phase_after configured at_first ≡ Asked) × (kept_after configured at_first ≡ (3, true) ∷ []) × (asked_after configured at_first ≡ Some 4) × (debuggee_after configured at_first ≡ NotStarted)
    × (written_after 4 (run (configured ++ terminal_ok 4 ∷ []) at_first) ≡ success_response 5 3 (codes "launch") None ∷ [])
unfolding plan_for initialize_of json_of is_utf8 chars serde_json_on_literals
launch_is_parked_then = (refl, refl, refl, refl, refl)

-- ---- where none is asked for

-- four messages are written, and the debuggee runs
abbrev StartsUnasked : List Calls → Type 0
StartsUnasked calls = (phase_after calls at_first ≡ Running) × (asked_after calls at_first ≡ None) × (kept_after calls at_first ≡ []) × (length (run calls at_first).written ≡ 4)

abbrev by_initialize : List Calls → Calls → List Calls
by_initialize begun launch = begun ++ launch ∷ turn ∷ request 3 (codes "configurationDone") ∷ turn ∷ []

-- for `attach`, for a client that announced nothing, and for another console
attach_asks_for_none : StartsUnasked (by_initialize announced (request_with 2 (codes "attach") (codes "{\"console\":\"terminal\"}")))
unfolding plan_for initialize_of json_of is_utf8 chars serde_json_on_literals
attach_asks_for_none = (refl, refl, refl, refl)

unannounced_asks_for_none : StartsUnasked (by_initialize initialized (in_terminal 2))
unfolding plan_for initialize_of json_of is_utf8 chars serde_json_on_literals
unannounced_asks_for_none = (refl, refl, refl, refl)

other_console_asks_for_none : StartsUnasked (by_initialize announced (launch_in 2 (codes "{\"console\":\"integratedTerminal\"}"))) × StartsUnasked (by_initialize announced (launch_in 2 (codes "{\"console\":[\"terminal\"]}")))
    × StartsUnasked (by_initialize announced (launch_in 2 (codes "{\"noDebug\":true}"))) × StartsUnasked (by_initialize announced (request 2 (codes "launch")))
unfolding plan_for initialize_of json_of is_utf8 chars serde_json_on_literals
other_console_asks_for_none = ((refl, refl, refl, refl), (refl, refl, refl, refl), (refl, refl, refl, refl), (refl, refl, refl, refl))

-- arguments that are no object
no_object_is_refused : (written_after 2 (run (announced ++ launch_in 2 (codes "\"terminal\"") ∷ turn ∷ []) at_first) ≡ failure_response 3 2 (codes "launch") (BadArguments Arguments) ∷ []) × (phase_after (announced ++ launch_in 2 (codes "\"terminal\"") ∷ turn ∷ []) at_first ≡ Ready)
unfolding plan_for initialize_of json_of is_utf8 chars serde_json_on_literals
no_object_is_refused = (refl, refl)

-- what a failed `initialize` says does not count, neither the first nor a second one
abbrev failing_initialize : Calls
failing_initialize = request_with 9 (codes "initialize") (codes "{\"adapterID\":7,\"supportsRunInTerminalRequest\":true}")

failed_initialize_announces_nothing : (written_after 0 (run (failing_initialize ∷ turn ∷ []) at_first) ≡ failure_response 1 9 (codes "initialize") (BadArguments AdapterId) ∷ [])
    × (phase_after (failing_initialize ∷ turn ∷ by_initialize initialized (in_terminal 2)) at_first ≡ Running)
    × (phase_after (by_initialize (initialized ++ request_with 9 (codes "initialize") (codes "{\"supportsRunInTerminalRequest\":true}") ∷ turn ∷ []) (in_terminal 2)) at_first ≡ Running)
    × (phase_after (by_initialize (announced ++ request 9 (codes "initialize") ∷ turn ∷ []) (in_terminal 2)) at_first ≡ Asked)
unfolding plan_for initialize_of json_of is_utf8 chars serde_json_on_literals
failed_initialize_announces_nothing = (refl, refl, refl, refl)

-- ---- while a terminal is waited for

-- others are in the wrong phase, a second launch too, and a poll does nothing
abbrev refused_meanwhile : List Calls
refused_meanwhile = waits ++ in_terminal 4 ∷ turn ∷ request 5 (codes "attach") ∷ turn ∷ request 6 (codes "configurationDone") ∷ turn ∷ request 7 (codes "terminate") ∷ turn
    ∷ request_with 8 (codes "pause") (codes "{\"threadId\":1}") ∷ turn ∷ request_with 9 (codes "stackTrace") (codes "{\"threadId\":1}") ∷ turn ∷ request 10 (codes "initialize") ∷ turn ∷ request 11 (codes "restart") ∷ turn ∷ request 12 (codes "foo") ∷ turn ∷ poll ∷ []

refused_while_asked : written_after 4 (run refused_meanwhile at_first)
    ≡ failure_response 5 4 (codes "launch") WrongPhase ∷ failure_response 6 5 (codes "attach") WrongPhase ∷ failure_response 7 6 (codes "configurationDone") WrongPhase ∷ failure_response 8 7 (codes "terminate") WrongPhase
    ∷ failure_response 9 8 (codes "pause") WrongPhase ∷ failure_response 10 9 (codes "stackTrace") WrongPhase ∷ failure_response 11 10 (codes "initialize") AlreadyInitialized ∷ failure_response 12 11 (codes "restart") Unsupported ∷ failure_response 13 12 (codes "foo") UnknownCommand ∷ []
unfolding plan_for initialize_of thread_of stack_trace_of json_of is_utf8 chars serde_json_on_literals
refused_while_asked = refl

launch_waits_on : (phase_after refused_meanwhile at_first ≡ Asked) × (kept_after refused_meanwhile at_first ≡ (2, true) ∷ []) × (asked_after refused_meanwhile at_first ≡ Some 4) × (debuggee_after refused_meanwhile at_first ≡ NotStarted)
unfolding plan_for initialize_of thread_of stack_trace_of json_of is_utf8 chars serde_json_on_literals
launch_waits_on = (refl, refl, refl, refl)

-- lines are set, and what there is told: no thread yet
abbrev served_meanwhile : List Calls
served_meanwhile = waits ++ request_with 4 (codes "setBreakpoints") (codes "{\"source\":{\"path\":\"/a.c\"},\"lines\":[1]}") ∷ turn ∷ request_with 5 (codes "setExceptionBreakpoints") (codes "{\"filters\":[]}") ∷ turn ∷ request 6 (codes "threads") ∷ turn ∷ request 7 (codes "loadedSources") ∷ turn ∷ []

served_while_asked : texts_of (written_after 4 (run served_meanwhile at_first))
    ≡ codes "{\"body\":{\"breakpoints\":[{\"id\":1,\"line\":1,\"verified\":true}]},\"command\":\"setBreakpoints\",\"request_seq\":4,\"seq\":5,\"success\":true,\"type\":\"response\"}"
    ∷ codes "{\"command\":\"setExceptionBreakpoints\",\"request_seq\":5,\"seq\":6,\"success\":true,\"type\":\"response\"}"
    ∷ codes "{\"body\":{\"threads\":[]},\"command\":\"threads\",\"request_seq\":6,\"seq\":7,\"success\":true,\"type\":\"response\"}"
    ∷ codes "{\"body\":{\"sources\":[{\"name\":\"a.c\",\"path\":\"/a.c\",\"sourceReference\":1}]},\"command\":\"loadedSources\",\"request_seq\":7,\"seq\":8,\"success\":true,\"type\":\"response\"}" ∷ []
unfolding canon tree_of request_members response_members event_members escape_byte digits plan_for query_result initialize_of given_lines set_breakpoints_of set_exception_breakpoints_of source_parts json_of is_utf8 chars serde_json_on_literals
served_while_asked = refl

-- the launch that waits is not cancelled: a cancel succeeds alone
cancel_alone : (written_after 4 (run (waits ++ request_with 4 (codes "cancel") (codes "{\"requestId\":2}") ∷ []) at_first) ≡ success_response 5 4 (codes "cancel") None ∷ [])
    × (kept_after (waits ++ request_with 4 (codes "cancel") (codes "{\"requestId\":2}") ∷ []) at_first ≡ (2, true) ∷ [])
unfolding plan_for cancel_of initialize_of json_of is_utf8 chars serde_json_on_literals
cancel_alone = (refl, refl)

-- ---- disconnect, and a response that comes too late

abbrev left : List Calls
left = waits ++ request 4 (codes "disconnect") ∷ turn ∷ []

launch_is_cancelled : (written_after 4 (run left at_first) ≡ failure_response 5 2 (codes "launch") Cancelled ∷ success_response 6 4 (codes "disconnect") None ∷ []) × (phase_after left at_first ≡ EndedPhase)
    × (kept_after left at_first ≡ []) × (length (own_requests (asked_after left at_first)) ≡ 1) × (asked_after left at_first ≡ Some 4) × (debuggee_after left at_first ≡ NotStarted)
unfolding plan_for initialize_of json_of is_utf8 chars serde_json_on_literals
launch_is_cancelled = (refl, refl, refl, refl, refl, refl)

-- then nothing comes of it, of a success as little as of a failure
abbrev late : Calls → List Calls
late response = left ++ response ∷ []

late_response : (written_after 6 (run (late (terminal_ok 4)) at_first) ≡ []) × (fault_after (late (terminal_ok 4)) at_first ≡ None) × (length (own_requests (asked_after (late (terminal_ok 4)) at_first)) ≡ 0)
    × (phase_after (late (terminal_ok 4)) at_first ≡ EndedPhase) × (debuggee_after (late (terminal_ok 4)) at_first ≡ NotStarted)
    × (written_after 6 (run (late (terminal_no 4)) at_first) ≡ []) × (fault_after (late (terminal_no 4)) at_first ≡ None) × (asked_after (late (terminal_no 4)) at_first ≡ None)
unfolding plan_for initialize_of json_of is_utf8 chars serde_json_on_literals
late_response = (refl, refl, refl, refl, refl, refl, refl, refl)

late_response_again : (fault_after (late (terminal_ok 4) ++ terminal_ok 4 ∷ []) at_first ≡ Some (Unmatched 4)) × (fault_after (late (answered_as 4 (codes "x"))) at_first ≡ Some (CommandMismatch 4)) × (asked_after (late (answered_as 4 (codes "x"))) at_first ≡ Some 4)
    × (fault_after (left ++ request 5 (codes "threads") ∷ []) at_first ≡ Some Ended)
unfolding plan_for initialize_of json_of is_utf8 chars serde_json_on_literals
late_response_again = (refl, refl, refl, refl)

-- ---- what closes the end, and leaves all as it was

-- another number, also with another command; before there is a request, too
unmatched : (fault_after (waits ++ terminal_ok 3 ∷ []) at_first ≡ Some (Unmatched 3)) × (fault_after (waits ++ answered_as 2 (codes "x") ∷ []) at_first ≡ Some (Unmatched 2)) × (fault_after (announced ++ terminal_ok 4 ∷ []) at_first ≡ Some (Unmatched 4))
    × Waits (waits ++ terminal_ok 3 ∷ []) at_first
unfolding plan_for initialize_of json_of is_utf8 chars serde_json_on_literals
unmatched = (refl, refl, refl, (refl, refl, refl, refl, refl))

-- once it is answered
answered_once : fault_after (started ++ terminal_ok 4 ∷ []) at_first ≡ Some (Unmatched 4)
unfolding plan_for initialize_of json_of is_utf8 chars serde_json_on_literals
answered_once = refl

-- another command, also where no number is left
other_command : (fault_after (waits ++ answered_as 4 (codes "launch") ∷ []) at_first ≡ Some (CommandMismatch 4)) × (fault_after (waits ++ answered_as 4 (codes "x") ∷ []) (with_numbers 4) ≡ Some (CommandMismatch 4))
    × Waits (waits ++ answered_as 4 (codes "launch") ∷ []) at_first
unfolding plan_for initialize_of json_of is_utf8 chars serde_json_on_literals
other_command = (refl, refl, (refl, refl, refl, refl, refl))

-- ---- few own numbers

-- a response takes one, for the launch, whichever it is; where none is left the debuggee is not asked
no_number_for_the_launch : (fault_after (waits ++ terminal_ok 4 ∷ []) (with_numbers 4) ≡ Some SeqExhausted) × (fault_after (waits ++ terminal_no 4 ∷ []) (with_numbers 4) ≡ Some SeqExhausted)
    × (fault_after (waits ++ terminal_ok 4 ∷ []) (with_numbers 5) ≡ None) × (phase_after (waits ++ terminal_ok 4 ∷ []) (with_numbers 5) ≡ Running)
    × Waits (waits ++ terminal_ok 4 ∷ []) (with_numbers 4)
unfolding plan_for initialize_of json_of is_utf8 chars serde_json_on_literals
no_number_for_the_launch = (refl, refl, refl, refl, (refl, refl, refl, refl, refl))

-- one that comes too late takes none
no_number_for_a_late_one : (fault_after (late (terminal_ok 4)) (with_numbers 6) ≡ None) × (asked_after (late (terminal_ok 4)) (with_numbers 6) ≡ None)
unfolding plan_for initialize_of json_of is_utf8 chars serde_json_on_literals
no_number_for_a_late_one = (refl, refl)

-- `configurationDone` takes two where it asks, and a launch in Configured one
no_number_for_the_request : (fault_after waits (with_numbers 3) ≡ Some SeqExhausted) × (phase_after waits (with_numbers 3) ≡ Parked) × (length (run waits (with_numbers 3)).written ≡ 2) × (kept_after waits (with_numbers 3) ≡ (2, true) ∷ (3, false) ∷ [])
    × (fault_after configured (with_numbers 3) ≡ Some SeqExhausted) × (phase_after configured (with_numbers 3) ≡ Configured) × (kept_after configured (with_numbers 3) ≡ (3, false) ∷ []) × (asked_after configured (with_numbers 3) ≡ None)
    × (fault_after configured (with_numbers 4) ≡ None) × (phase_after configured (with_numbers 4) ≡ Asked)
unfolding plan_for initialize_of json_of is_utf8 chars serde_json_on_literals
no_number_for_the_request = (refl, refl, refl, refl, refl, refl, refl, refl, refl, refl)

-- Worked examples of references and breakpoints, each shown by computation.
use Rattle.std.proofs.Common.{◌≡◌, ℕ, List, [], ◌∷◌, ◌++◌, length, false, codes, refl, replicate}
use Rattle.std.specs.Fmt.{digits}
use Rattle.std.specs.List.{flat_map}
use Rattle.std.specs.Str.{is_utf8, chars}
use Rattle.json.specs.Print.{escape_byte}
use Rattle.serde_json.proofs.OnLiterals.{serde_json_on_literals}
use Rattle.dap_json.specs.Read.{json_of}
use Rattle.dap_frame.specs.Settings.{Settings, usual_settings, settings}
use Rattle.dap_call.specs.Call.{initialize_of, thread_of, stack_trace_of, scopes_of, variables_of, evaluate_of, source_of, source_parts, given_lines, set_breakpoints_of}
use Rattle.dap_envelope.specs.Canon.{canon, tree_of, response_members, event_members}
use Rattle.dap_message.specs.MessageParts.{failure_response}
use Rattle.dap_body.specs.declared.failure.Failure.TheVariants.{UnknownThread, StaleReference, UnknownSource, Debuggee, TooManyBreakpoints, TooManyReferences, ReferencesExhausted, TooLarge, NotStopped}
use Rattle.dap_command.specs.declared.source_key.SourceKey.TheVariants.{Path}
use Rattle.dap_query.specs.Bodies.{query_result}
use Rattle.dap_plan.specs.Handling.{plan_for}
use Rattle.dap_plan.specs.Polling.{after_happening}
use Rattle.dap_world.proofs.PlayedSessions.{At, Calls, turn, poll, run, fresh_at, request, request_with, texts_of, initialized, written_after}

abbrev played : Settings → List Calls → At
played limits calls = run calls (fresh_at limits false)

abbrev asked : ℕ → List ℕ → List ℕ → List Calls
asked seq command arguments = request_with seq command arguments ∷ turn ∷ []

-- six messages are written then
abbrev stopped_at_first : List Calls
stopped_at_first = initialized ++ request 2 (codes "launch") ∷ turn ∷ request 3 (codes "configurationDone") ∷ turn ∷ poll ∷ poll ∷ []

abbrev stack : ℕ → List Calls
stack seq = asked seq (codes "stackTrace") (codes "{\"threadId\":1}")

-- ---- numbers in a stop

abbrev inspected : List Calls
inspected = stopped_at_first ++ stack 4 ++ asked 5 (codes "scopes") (codes "{\"frameId\":1}") ++ asked 6 (codes "scopes") (codes "{\"frameId\":1}")
    ++ asked 7 (codes "variables") (codes "{\"variablesReference\":2}") ++ asked 8 (codes "variables") (codes "{\"variablesReference\":3}")
    ++ asked 9 (codes "evaluate") (codes "{\"expression\":\"p\",\"frameId\":1}") ++ asked 10 (codes "evaluate") (codes "{\"expression\":\"q\",\"frameId\":1}")
    ++ asked 11 (codes "next") (codes "{\"threadId\":2}")

in_a_stop : texts_of (written_after 6 (played usual_settings inspected))
    ≡ codes "{\"body\":{\"stackFrames\":[{\"column\":1,\"id\":1,\"line\":1,\"name\":\"main\",\"source\":{\"name\":\"a.c\",\"path\":\"/a.c\",\"sourceReference\":1}}],\"totalFrames\":1},\"command\":\"stackTrace\",\"request_seq\":4,\"seq\":7,\"success\":true,\"type\":\"response\"}"
    ∷ codes "{\"body\":{\"scopes\":[{\"expensive\":false,\"name\":\"Locals\",\"variablesReference\":2}]},\"command\":\"scopes\",\"request_seq\":5,\"seq\":8,\"success\":true,\"type\":\"response\"}"
    ∷ codes "{\"body\":{\"scopes\":[{\"expensive\":false,\"name\":\"Locals\",\"variablesReference\":2}]},\"command\":\"scopes\",\"request_seq\":6,\"seq\":9,\"success\":true,\"type\":\"response\"}"
    ∷ codes "{\"body\":{\"variables\":[{\"name\":\"x\",\"value\":\"1\",\"variablesReference\":0},{\"name\":\"p\",\"value\":\"P\",\"variablesReference\":3}]},\"command\":\"variables\",\"request_seq\":7,\"seq\":10,\"success\":true,\"type\":\"response\"}"
    ∷ codes "{\"body\":{\"variables\":[{\"name\":\"a\",\"value\":\"7\",\"variablesReference\":0}]},\"command\":\"variables\",\"request_seq\":8,\"seq\":11,\"success\":true,\"type\":\"response\"}"
    ∷ codes "{\"body\":{\"result\":\"P\",\"variablesReference\":3},\"command\":\"evaluate\",\"request_seq\":9,\"seq\":12,\"success\":true,\"type\":\"response\"}"
    ∷ texts_of (failure_response 13 10 (codes "evaluate") Debuggee ∷ failure_response 14 11 (codes "next") UnknownThread ∷ [])
unfolding canon tree_of response_members event_members escape_byte digits plan_for query_result after_happening initialize_of thread_of stack_trace_of scopes_of variables_of evaluate_of json_of is_utf8 chars serde_json_on_literals
in_a_stop = refl

-- the next stop: old numbers are stale, and new ones follow them
abbrev at_next_stop : List Calls
at_next_stop = inspected ++ asked 12 (codes "next") (codes "{\"threadId\":1}") ++ poll ∷ [] ++ asked 13 (codes "variables") (codes "{\"variablesReference\":2}") ++ stack 14 ++ asked 15 (codes "scopes") (codes "{\"frameId\":4}")

in_the_next_stop : texts_of (written_after 14 (played usual_settings at_next_stop))
    ≡ codes "{\"command\":\"next\",\"request_seq\":12,\"seq\":15,\"success\":true,\"type\":\"response\"}"
    ∷ codes "{\"body\":{\"allThreadsStopped\":true,\"reason\":\"step\",\"threadId\":1},\"event\":\"stopped\",\"seq\":16,\"type\":\"event\"}"
    ∷ texts_of (failure_response 17 13 (codes "variables") StaleReference ∷ [])
    ++ codes "{\"body\":{\"stackFrames\":[{\"column\":1,\"id\":4,\"line\":2,\"name\":\"main\",\"source\":{\"name\":\"a.c\",\"path\":\"/a.c\",\"sourceReference\":1}}],\"totalFrames\":1},\"command\":\"stackTrace\",\"request_seq\":14,\"seq\":18,\"success\":true,\"type\":\"response\"}"
    ∷ codes "{\"body\":{\"scopes\":[]},\"command\":\"scopes\",\"request_seq\":15,\"seq\":19,\"success\":true,\"type\":\"response\"}" ∷ []
unfolding canon tree_of response_members event_members escape_byte digits plan_for query_result after_happening initialize_of thread_of stack_trace_of scopes_of variables_of evaluate_of json_of is_utf8 chars serde_json_on_literals
in_the_next_stop = refl

-- ---- limits of references

abbrev two_references : Settings
two_references = settings 8192 4194304 64 2 4096 9007199254740991 2147483647

too_many : (written_after 8 (played two_references (stopped_at_first ++ stack 4 ++ asked 5 (codes "scopes") (codes "{\"frameId\":1}") ++ asked 6 (codes "variables") (codes "{\"variablesReference\":2}")))
    ≡ failure_response 9 6 (codes "variables") TooManyReferences ∷ [])
    × (length (played two_references (stopped_at_first ++ stack 4 ++ asked 5 (codes "scopes") (codes "{\"frameId\":1}") ++ asked 6 (codes "variables") (codes "{\"variablesReference\":2}"))).session.references.live ≡ 2)
unfolding canon tree_of response_members event_members escape_byte digits plan_for query_result after_happening initialize_of stack_trace_of scopes_of variables_of json_of is_utf8 chars serde_json_on_literals
too_many = (refl, refl)

none_left : written_after 10 (played (settings 8192 4194304 64 65536 4096 9007199254740991 2) (stopped_at_first ++ stack 4 ++ asked 5 (codes "scopes") (codes "{\"frameId\":1}") ++ asked 6 (codes "next") (codes "{\"threadId\":1}") ++ poll ∷ [] ++ stack 7))
    ≡ failure_response 11 7 (codes "stackTrace") ReferencesExhausted ∷ []
unfolding canon tree_of response_members event_members escape_byte digits plan_for query_result after_happening initialize_of thread_of stack_trace_of scopes_of json_of is_utf8 chars serde_json_on_literals
none_left = refl

-- room for one: two frames are refused and none is live, the second frame alone is told
abbrev one_reference : Settings
one_reference = settings 8192 4194304 64 1 4096 9007199254740991 2147483647

abbrev in_f : List Calls
in_f = stopped_at_first ++ asked 4 (codes "stepIn") (codes "{\"threadId\":1}") ++ poll ∷ [] ++ stack 5

refused_whole : (written_after 8 (played one_reference in_f) ≡ failure_response 9 5 (codes "stackTrace") TooManyReferences ∷ []) × ((played one_reference in_f).session.references.live ≡ [])
unfolding canon tree_of response_members event_members escape_byte digits plan_for query_result after_happening initialize_of thread_of stack_trace_of json_of is_utf8 chars serde_json_on_literals
refused_whole = (refl, refl)

one_frame : texts_of (written_after 9 (played one_reference (in_f ++ asked 6 (codes "stackTrace") (codes "{\"threadId\":1,\"startFrame\":1}") ++ request 7 (codes "loadedSources") ∷ turn ∷ [] ++ asked 8 (codes "source") (codes "{\"sourceReference\":1}") ++ asked 9 (codes "source") (codes "{\"sourceReference\":2}"))))
    ≡ codes "{\"body\":{\"stackFrames\":[{\"column\":1,\"id\":1,\"line\":1,\"name\":\"main\",\"source\":{\"name\":\"a.c\",\"path\":\"/a.c\",\"sourceReference\":1}}],\"totalFrames\":2},\"command\":\"stackTrace\",\"request_seq\":6,\"seq\":10,\"success\":true,\"type\":\"response\"}"
    ∷ codes "{\"body\":{\"sources\":[{\"name\":\"a.c\",\"path\":\"/a.c\",\"sourceReference\":1}]},\"command\":\"loadedSources\",\"request_seq\":7,\"seq\":11,\"success\":true,\"type\":\"response\"}"
    ∷ codes "{\"body\":{\"content\":\"one\\ntwo\\nthree\\n\"},\"command\":\"source\",\"request_seq\":8,\"seq\":12,\"success\":true,\"type\":\"response\"}"
    ∷ texts_of (failure_response 13 9 (codes "source") UnknownSource ∷ [])
unfolding canon tree_of response_members event_members escape_byte digits plan_for query_result after_happening initialize_of thread_of stack_trace_of source_of source_parts json_of is_utf8 chars serde_json_on_literals
one_frame = refl

-- ---- breakpoints

abbrev set_three : List Calls
set_three = initialized ++ asked 2 (codes "setBreakpoints") (codes "{\"source\":{\"path\":\"/a.c\"},\"breakpoints\":[{\"line\":1},{\"line\":3},{\"line\":9}]}")

abbrev set_again : List Calls
set_again = set_three ++ asked 3 (codes "setBreakpoints") (codes "{\"source\":{\"path\":\"/a.c\"},\"breakpoints\":[]}") ++ asked 4 (codes "setBreakpoints") (codes "{\"source\":{\"path\":\"/a.c\"},\"lines\":[2]}")

breakpoints_are_replaced : texts_of (written_after 2 (played usual_settings set_again))
    ≡ codes "{\"body\":{\"breakpoints\":[{\"id\":1,\"line\":1,\"verified\":true},{\"id\":2,\"line\":3,\"verified\":true},{\"id\":3,\"line\":9,\"verified\":false}]},\"command\":\"setBreakpoints\",\"request_seq\":2,\"seq\":3,\"success\":true,\"type\":\"response\"}"
    ∷ codes "{\"body\":{\"breakpoints\":[]},\"command\":\"setBreakpoints\",\"request_seq\":3,\"seq\":4,\"success\":true,\"type\":\"response\"}"
    ∷ codes "{\"body\":{\"breakpoints\":[{\"id\":4,\"line\":2,\"verified\":true}]},\"command\":\"setBreakpoints\",\"request_seq\":4,\"seq\":5,\"success\":true,\"type\":\"response\"}" ∷ []
unfolding canon tree_of response_members event_members escape_byte digits plan_for query_result after_happening initialize_of given_lines set_breakpoints_of source_parts json_of is_utf8 chars serde_json_on_literals
breakpoints_are_replaced = refl

-- a hundred lines in a body of 1024 bytes: the list stands, and so does the next id
abbrev short_bodies : Settings
short_bodies = settings 8192 1024 64 65536 4096 9007199254740991 2147483647

abbrev hundred_lines : List ℕ
hundred_lines = codes "{\"source\":{\"path\":\"/a.c\"},\"lines\":[" ++ codes "1" ++ flat_map {X = ℕ} (λ n. codes ",1") (replicate 99 1) ++ codes "]}"

too_large : (written_after 5 (played short_bodies (set_again ++ asked 5 (codes "setBreakpoints") hundred_lines)) ≡ failure_response 6 5 (codes "setBreakpoints") TooLarge ∷ [])
    × ((played short_bodies (set_again ++ asked 5 (codes "setBreakpoints") hundred_lines)).session.breakpoints ≡ record { sources = record { source = Path (codes "/a.c"); set = (4, 2) ∷ [] } ∷ []; next_id = 5 })
unfolding canon tree_of response_members event_members escape_byte digits plan_for query_result after_happening initialize_of given_lines set_breakpoints_of source_parts json_of is_utf8 chars serde_json_on_literals
too_large = (refl, refl)

too_many_lines : written_after 2 (played (settings 8192 4194304 64 65536 2 9007199254740991 2147483647) set_three) ≡ failure_response 3 2 (codes "setBreakpoints") TooManyBreakpoints ∷ []
unfolding canon tree_of response_members event_members escape_byte digits plan_for query_result after_happening initialize_of given_lines set_breakpoints_of source_parts json_of is_utf8 chars serde_json_on_literals
too_many_lines = refl

-- lines from 0
lines_from_zero : texts_of (written_after 2 (played usual_settings (asked 1 (codes "initialize") (codes "{\"linesStartAt1\":false}") ++ asked 2 (codes "setBreakpoints") (codes "{\"source\":{\"path\":\"/a.c\"},\"lines\":[0]}"))))
    ≡ codes "{\"body\":{\"breakpoints\":[{\"id\":1,\"line\":0,\"verified\":true}]},\"command\":\"setBreakpoints\",\"request_seq\":2,\"seq\":3,\"success\":true,\"type\":\"response\"}" ∷ []
unfolding canon tree_of response_members event_members escape_byte digits plan_for query_result after_happening initialize_of given_lines set_breakpoints_of source_parts json_of is_utf8 chars serde_json_on_literals
lines_from_zero = refl

-- ---- while the debuggee runs

not_stopped : written_after 7 (played usual_settings (stopped_at_first ++ asked 4 (codes "continue") (codes "{\"threadId\":1}") ++ poll ∷ [] ++ stack 5)) ≡ failure_response 8 5 (codes "stackTrace") NotStopped ∷ []
unfolding canon tree_of response_members event_members escape_byte digits plan_for query_result after_happening initialize_of thread_of stack_trace_of json_of is_utf8 chars serde_json_on_literals
not_stopped = refl

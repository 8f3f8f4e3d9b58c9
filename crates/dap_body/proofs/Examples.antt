-- Worked examples, each shown by computation.
use Rattle.std.proofs.Common.{◌≡◌, [], ◌∷◌, bytes_eq, codes, length, map, true, false, Some, None, pos, negsuc, refl}
use Rattle.std.specs.Fmt.{digits}
use Rattle.json.specs.Print.{escape_byte}
use Rattle.serde_json.specs.Data.{boolean, negative, number, string, array, object, no_items, no_members, member}
use Rattle.serde_json.specs.Written.{compact_text}
use Rattle.dap_json.specs.Put.{whole_number}
use Rattle.dap_command.specs.declared.key.Key.TheVariants as key
use Rattle.dap_body.specs.Failure.{row_of, failures_in_order, failure_body, explained_body}
use Rattle.dap_body.specs.ResponseBody.{set_breakpoints_body, threads_body, continue_body, stack_trace_body, scopes_body, variables_body, evaluate_body, set_variable_body, source_body, loaded_sources_body, initialize_body}
use Rattle.dap_json.specs.declared.more.Member.{Member}
use Rattle.dap_body.specs.EventBody.{output_body, stopped_body, continued_body, exited_body}
use Rattle.dap_body.specs.declared.failure.Failure.TheVariants.{NotInitialized, BadArguments, NotStopped, Debuggee, TooLarge, Busy, Cancelled}
use Rattle.dap_body.specs.declared.response.Source.{Source}
use Rattle.dap_command.specs.Capabilities.{capabilities_of}
use Rattle.dap_command.specs.Command.{flag_of}
use Rattle.dap_command.specs.declared.capabilities.Capabilities.{Capabilities}
use Rattle.dap_command.specs.declared.command.Gate.TheVariants as gate

-- ---- failures

numbers_in_order : map (λ f. (row_of f).id) (failures_in_order key.Path) ≡ 1001 ∷ 1002 ∷ 1003 ∷ 1004 ∷ 1005 ∷ 1007 ∷ 1006 ∷ 1008 ∷ 1009 ∷ 1014 ∷ 1013 ∷ 1015 ∷ 1010 ∷ 1017 ∷ 1016 ∷ []
numbers_in_order = refl

outside_the_order : ((row_of Busy).id ≡ 1011) × ((row_of Cancelled).id ≡ 1012)
outside_the_order = (refl, refl)

names_of_the_standard : ((row_of Cancelled).name ≡ codes "cancelled") × ((row_of NotStopped).name ≡ codes "notStopped")
names_of_the_standard = (refl, refl)

names_the_key : (row_of (BadArguments key.RequestId)).format ≡ codes "The argument requestId is missing or malformed."
names_the_key = refl

names_the_whole : (row_of (BadArguments key.Arguments)).format ≡ codes "The argument arguments is missing or malformed."
names_the_whole = refl

one_row_for_all_keys : ((row_of (BadArguments key.Line)).id ≡ 1005) × ((row_of (BadArguments key.Line)).name ≡ codes "badArguments")
one_row_for_all_keys = (refl, refl)

first_and_last_text : ((row_of NotInitialized).format ≡ codes "The session is not initialized.") × ((row_of TooLarge).format ≡ codes "The response would be too large.")
first_and_last_text = (refl, refl)

as_an_error : failure_body Cancelled ≡ object (member (codes "error") (object (member (codes "format") (string (codes "The request was cancelled.")) (member (codes "id") (whole_number 1012) no_members))) no_members)
as_an_error = refl

text_of_an_error : compact_text (failure_body NotInitialized) ≡ codes "{\"error\":{\"format\":\"The session is not initialized.\",\"id\":1001}}"
unfolding escape_byte digits
text_of_an_error = refl

text_of_a_bad_key : compact_text (failure_body (BadArguments key.ThreadId)) ≡ codes "{\"error\":{\"format\":\"The argument threadId is missing or malformed.\",\"id\":1005}}"
unfolding escape_byte digits
text_of_a_bad_key = refl

fifteen_in_order : length (failures_in_order key.Arguments) ≡ 15
fifteen_in_order = refl

a_refusal_of_the_debuggee : row_of Debuggee ≡ record { id = 1013; name = codes "debuggee"; format = codes "The debuggee refused." }
a_refusal_of_the_debuggee = refl

-- with what the debuggee says of it
text_with_a_reason : compact_text (explained_body false (codes "no \"x\"")) ≡ codes "{\"error\":{\"format\":\"{why}\",\"id\":1013,\"variables\":{\"why\":\"no \\\"x\\\"\"}}}"
unfolding escape_byte digits
text_with_a_reason = refl

text_for_the_user : compact_text (explained_body true []) ≡ codes "{\"error\":{\"format\":\"{why}\",\"id\":1013,\"showUser\":true,\"variables\":{\"why\":\"\"}}}"
unfolding escape_byte digits
text_for_the_user = refl

-- ---- responses

two_lines : compact_text (set_breakpoints_body (record { id = 1; line = 3; verified = true; message = None; more = [] } ∷ record { id = 2; line = 9; verified = false; message = Some (codes "no code"); more = [] } ∷ []))
    ≡ codes "{\"breakpoints\":[{\"id\":1,\"line\":3,\"verified\":true},{\"id\":2,\"line\":9,\"message\":\"no code\",\"verified\":false}]}"
unfolding escape_byte digits
two_lines = refl

no_lines : compact_text (set_breakpoints_body []) ≡ codes "{\"breakpoints\":[]}"
unfolding escape_byte
no_lines = refl

no_threads : threads_body [] ≡ object (member (codes "threads") (array no_items) no_members)
no_threads = refl

thread_below_0 : compact_text (threads_body (record { id = negsuc 6; name = codes "m"; more = [] } ∷ [])) ≡ codes "{\"threads\":[{\"id\":-7,\"name\":\"m\"}]}"
unfolding escape_byte digits
thread_below_0 = refl

all_go_on : compact_text continue_body ≡ codes "{\"allThreadsContinued\":true}"
unfolding escape_byte
all_go_on = refl

abbrev with_a_path : Source
with_a_path = record { name = codes "a.c"; path = Some (codes "/a.c"); source_reference = Some 1; more = [] }

abbrev without_a_path : Source
without_a_path = record { name = codes "b.c"; path = None; source_reference = Some 2; more = [] }

path_is_written : compact_text (loaded_sources_body (with_a_path ∷ [])) ≡ codes "{\"sources\":[{\"name\":\"a.c\",\"path\":\"/a.c\",\"sourceReference\":1}]}"
unfolding escape_byte digits
path_is_written = refl

file_on_disk_has_no_reference : compact_text (loaded_sources_body (record { name = codes "a.c"; path = Some (codes "/a.c"); source_reference = None; more = [] } ∷ [])) ≡ codes "{\"sources\":[{\"name\":\"a.c\",\"path\":\"/a.c\"}]}"
unfolding escape_byte digits
file_on_disk_has_no_reference = refl

no_path_is_written : compact_text (loaded_sources_body (without_a_path ∷ [])) ≡ codes "{\"sources\":[{\"name\":\"b.c\",\"sourceReference\":2}]}"
unfolding escape_byte digits
no_path_is_written = refl

-- one frame of two
a_window_of_frames : compact_text (stack_trace_body (record { id = 1; name = codes "f"; source = Some without_a_path; line = 3; column = 1; more = [] } ∷ []) 2)
    ≡ codes "{\"stackFrames\":[{\"column\":1,\"id\":1,\"line\":3,\"name\":\"f\",\"source\":{\"name\":\"b.c\",\"sourceReference\":2}}],\"totalFrames\":2}"
unfolding escape_byte digits
a_window_of_frames = refl

a_frame_without_a_source : compact_text (stack_trace_body (record { id = 1; name = codes "f"; source = None; line = 0; column = 0; more = [] } ∷ []) 1)
    ≡ codes "{\"stackFrames\":[{\"column\":0,\"id\":1,\"line\":0,\"name\":\"f\"}],\"totalFrames\":1}"
unfolding escape_byte digits
a_frame_without_a_source = refl

a_scope_is_not_expensive : compact_text (scopes_body (record { name = codes "Locals"; variables_reference = 2; more = [] } ∷ [])) ≡ codes "{\"scopes\":[{\"expensive\":false,\"name\":\"Locals\",\"variablesReference\":2}]}"
unfolding escape_byte digits
a_scope_is_not_expensive = refl

a_variable_without_parts : compact_text (variables_body (record { name = codes "x"; value = codes "1"; variables_reference = 0; more = [] } ∷ [])) ≡ codes "{\"variables\":[{\"name\":\"x\",\"value\":\"1\",\"variablesReference\":0}]}"
unfolding escape_byte digits
a_variable_without_parts = refl

a_result_with_parts : compact_text (evaluate_body (codes "P") 3 []) ≡ codes "{\"result\":\"P\",\"variablesReference\":3}"
unfolding escape_byte digits
a_result_with_parts = refl

a_source's_text : compact_text (source_body (codes "one\n")) ≡ codes "{\"content\":\"one\\n\"}"
unfolding escape_byte
a_source's_text = refl

-- ---- events

an_output : compact_text (output_body (codes "stdout") (codes "go\n") []) ≡ codes "{\"category\":\"stdout\",\"output\":\"go\\n\"}"
unfolding escape_byte
an_output = refl

output_as_data : output_body (codes "console") [] [] ≡ object (member (codes "category") (string (codes "console")) (member (codes "output") (string []) no_members))
output_as_data = refl

a_stop : compact_text (stopped_body (codes "pause") (pos 1) []) ≡ codes "{\"allThreadsStopped\":true,\"reason\":\"pause\",\"threadId\":1}"
unfolding escape_byte digits
a_stop = refl

stop_as_data : stopped_body (codes "step") (pos 2) [] ≡ object (member (codes "allThreadsStopped") (boolean true) (member (codes "reason") (string (codes "step")) (member (codes "threadId") (whole_number 2) no_members)))
stop_as_data = refl

a_thread_goes_on : compact_text (continued_body (negsuc 0)) ≡ codes "{\"allThreadsContinued\":true,\"threadId\":-1}"
unfolding escape_byte digits
a_thread_goes_on = refl

going_on_as_data : continued_body (negsuc 0) ≡ object (member (codes "allThreadsContinued") (boolean true) (member (codes "threadId") (number (negative (negsuc 0))) no_members))
going_on_as_data = refl

least_exit_code : compact_text (exited_body (negsuc 2147483647)) ≡ codes "{\"exitCode\":-2147483648}"
unfolding escape_byte digits
least_exit_code = refl

exit_as_data : exited_body (pos 0) ≡ object (member (codes "exitCode") (whole_number 0) no_members)
exit_as_data = refl

a_quote_is_escaped : compact_text (output_body (codes "console") (codes "say \"a\"") []) ≡ codes "{\"category\":\"console\",\"output\":\"say \\\"a\\\"\"}"
unfolding escape_byte
a_quote_is_escaped = refl

a_stop_below_0 : compact_text (stopped_body (codes "entry") (negsuc 9007199254740990) []) ≡ codes "{\"allThreadsStopped\":true,\"reason\":\"entry\",\"threadId\":-9007199254740991}"
unfolding escape_byte digits
a_stop_below_0 = refl

thread_0_goes_on : continued_body (pos 0) ≡ object (member (codes "allThreadsContinued") (boolean true) (member (codes "threadId") (whole_number 0) no_members))
thread_0_goes_on = refl

greatest_exit_code : compact_text (exited_body (pos 2147483647)) ≡ codes "{\"exitCode\":2147483647}"
unfolding escape_byte digits
greatest_exit_code = refl

-- members beside a variable's own: each at its place, none of ours replaced
abbrev a_type : Member
a_type = record { key = codes "type"; value = string (codes "int") }

abbrev an_expression : Member
an_expression = record { key = codes "evaluateName"; value = string (codes "a.x") }

abbrev another_value : Member
another_value = record { key = codes "value"; value = string (codes "2") }

a_variable_with_more : compact_text (variables_body (record { name = codes "x"; value = codes "1"; variables_reference = 0; more = an_expression ∷ a_type ∷ [] } ∷ []))
    ≡ codes "{\"variables\":[{\"evaluateName\":\"a.x\",\"name\":\"x\",\"type\":\"int\",\"value\":\"1\",\"variablesReference\":0}]}"
unfolding escape_byte digits
a_variable_with_more = refl

ours_is_not_replaced : compact_text (variables_body (record { name = codes "x"; value = codes "1"; variables_reference = 0; more = a_type ∷ another_value ∷ [] } ∷ []))
    ≡ codes "{\"variables\":[{\"name\":\"x\",\"type\":\"int\",\"value\":\"1\",\"variablesReference\":0}]}"
unfolding escape_byte digits
ours_is_not_replaced = refl

-- also where it is absent
no_reference_comes_in : compact_text (loaded_sources_body (record { name = codes "a.c"; path = Some (codes "/a.c"); source_reference = None; more = record { key = codes "sourceReference"; value = whole_number 7 } ∷ [] } ∷ []))
    ≡ codes "{\"sources\":[{\"name\":\"a.c\",\"path\":\"/a.c\"}]}"
unfolding escape_byte digits
no_reference_comes_in = refl

nor_into_a_value_that_is_set : compact_text (set_variable_body (codes "9") (a_type ∷ record { key = codes "variablesReference"; value = whole_number 7 } ∷ [])) ≡ codes "{\"type\":\"int\",\"value\":\"9\"}"
unfolding escape_byte digits
nor_into_a_value_that_is_set = refl

-- members out of order cannot stand beside others
none_out_of_order : compact_text (evaluate_body (codes "1") 0 (a_type ∷ an_expression ∷ [])) ≡ codes "{\"result\":\"1\",\"variablesReference\":0}"
unfolding escape_byte digits
none_out_of_order = refl

-- ---- what is offered

abbrev goes_back : Capabilities
goes_back = capabilities_of (λ g. bytes_eq (flag_of g) (flag_of gate.StepBack))

flags_that_are_set : (compact_text (initialize_body goes_back []) ≡ codes "{\"supportsStepBack\":true}") × (compact_text (initialize_body (capabilities_of (λ g. false)) []) ≡ codes "{}")
unfolding escape_byte
flags_that_are_set = (refl, refl)

-- a flag that gates a command is no member's, also one that is not set, nor is a key of references
others_beside : compact_text (initialize_body goes_back (record { key = codes "a"; value = boolean true } ∷ record { key = codes "supportsLogPoints"; value = boolean true } ∷ record { key = codes "supportsModulesRequest"; value = boolean true } ∷ record { key = codes "supportsStepBack"; value = boolean false } ∷ record { key = codes "variables"; value = boolean true } ∷ record { key = codes "z"; value = boolean false } ∷ []))
    ≡ codes "{\"a\":true,\"supportsLogPoints\":true,\"supportsStepBack\":true,\"z\":false}"
unfolding escape_byte
others_beside = refl

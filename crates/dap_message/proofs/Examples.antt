-- Worked examples, each shown by computation.
use Rattle.std.proofs.Common.{[], ◌≡◌, length, replicate, codes, true, false, Some, None, pos, negsuc, refl, sym, true≢false, arith}
use Rattle.std.specs.Fmt.{digits}
use Rattle.json.specs.Print.{escape_byte}
use Rattle.dap_json.specs.Field.{max_seq}
use Rattle.dap_command.specs.Capabilities.{capabilities_of}
use Rattle.dap_command.specs.declared.capabilities.Capabilities.{Capabilities}
use Rattle.dap_command.specs.declared.key.Key.TheVariants.{SupportsRunInTerminalRequest}
use Rattle.dap_body.specs.declared.failure.Failure.TheVariants.{NotInitialized, Unsupported, BadArguments, Cancelled}
use Rattle.dap_envelope.specs.Canon.{tree_of, canon, response_members, event_members}
use Rattle.dap_message.specs.MessageParts.{failure_response, explained_response, success_response, event_message, initialized, output, stopped, continued, exited, event_name, event_body}
use Rattle.dap_message.specs.Lengths.{is_exit_code, IsWithin, offer_fits}
use Rattle.dap_command.specs.Offer.{usual_offer}
use Rattle.serde_json.specs.Written.{compact_text}
use Rattle.dap_body.specs.Failure.{failure_body}
use Rattle.dap_body.specs.PlainBodies.{IsPlain}
use Rattle.dap_body.specs.ResponseBody.{initialize_body, offer_body, continue_body, set_variable_body}
use Rattle.dap_envelope.specs.Plain.{is_plain}

-- ---- what an adapter writes of a fixed shape

a_cancelled_request : canon (failure_response 3 2 (codes "threads") Cancelled) ≡ codes "{\"body\":{\"error\":{\"format\":\"The request was cancelled.\",\"id\":1012}},\"command\":\"threads\",\"message\":\"cancelled\",\"request_seq\":2,\"seq\":3,\"success\":false,\"type\":\"response\"}"
unfolding canon tree_of response_members escape_byte digits
a_cancelled_request = refl

bytes_of_failures : (length (canon (failure_response 1 1 (codes "threads") NotInitialized)) ≡ 178) × (length (canon (failure_response 1 1 (codes "threads") Unsupported)) ≡ 173)
unfolding canon tree_of response_members escape_byte digits
bytes_of_failures = (refl, refl)

-- a command of 64 bytes that JSON has to escape, and the longest key
longest_failure : length (canon (failure_response max_seq max_seq (replicate 64 1) (BadArguments SupportsRunInTerminalRequest))) ≡ 618
unfolding canon tree_of response_members escape_byte digits
longest_failure = refl

-- with what the debuggee says of why, for the client's user to see
a_reason : canon (explained_response 3 2 (codes "evaluate") true (codes "no x")) ≡ codes "{\"body\":{\"error\":{\"format\":\"{why}\",\"id\":1013,\"showUser\":true,\"variables\":{\"why\":\"no x\"}}},\"command\":\"evaluate\",\"message\":\"debuggee\",\"request_seq\":2,\"seq\":3,\"success\":false,\"type\":\"response\"}"
unfolding canon tree_of response_members escape_byte digits
a_reason = refl

-- 186 bytes and the reason
bytes_of_a_reason : length (canon (explained_response 7 4 (codes "evaluate") true (replicate 4 122))) ≡ 190
unfolding canon tree_of response_members escape_byte digits
bytes_of_a_reason = refl

nothing_to_say : canon (success_response 4 3 (codes "cancel") None) ≡ codes "{\"command\":\"cancel\",\"request_seq\":3,\"seq\":4,\"success\":true,\"type\":\"response\"}"
unfolding canon tree_of response_members escape_byte digits
nothing_to_say = refl

all_threads_go_on : canon (success_response 7 4 (codes "continue") (Some continue_body)) ≡ codes "{\"body\":{\"allThreadsContinued\":true},\"command\":\"continue\",\"request_seq\":4,\"seq\":7,\"success\":true,\"type\":\"response\"}"
unfolding canon tree_of response_members escape_byte digits
all_threads_go_on = refl

-- the value that was set has any length, so that no fixed size holds it
a_value_was_set : canon (success_response 16 15 (codes "setVariable") (Some (set_variable_body (codes "9") []))) ≡ codes "{\"body\":{\"value\":\"9\"},\"command\":\"setVariable\",\"request_seq\":15,\"seq\":16,\"success\":true,\"type\":\"response\"}"
unfolding canon tree_of response_members escape_byte digits
a_value_was_set = refl

abbrev every_flag : Capabilities
every_flag = capabilities_of (λ gate. true)

longest_response : length (canon (success_response max_seq max_seq (replicate 64 1) (Some (initialize_body every_flag [])))) ≡ 889
unfolding canon tree_of response_members escape_byte digits
longest_response = refl

without_a_body : canon (event_message 2 (event_name initialized) (event_body initialized)) ≡ codes "{\"event\":\"initialized\",\"seq\":2,\"type\":\"event\"}"
unfolding canon tree_of event_members escape_byte digits
without_a_body = refl

a_stop : canon (event_message 10 (event_name (stopped (codes "pause") (pos 1) [])) (event_body (stopped (codes "pause") (pos 1) []))) ≡ codes "{\"body\":{\"allThreadsStopped\":true,\"reason\":\"pause\",\"threadId\":1},\"event\":\"stopped\",\"seq\":10,\"type\":\"event\"}"
unfolding canon tree_of event_members escape_byte digits
a_stop = refl

-- texts at their limits, that JSON has to escape
longest_output : length (canon (event_message max_seq (event_name (output (replicate 9 1) (replicate 128 1) [])) (event_body (output (replicate 9 1) (replicate 128 1) [])))) ≡ 913
unfolding canon tree_of event_members escape_byte digits
longest_output = refl

longest_reason : IsWithin (stopped (replicate 64 1) (negsuc 9007199254740990) [])
longest_reason = (omega arith, refl)

ends_of_exit_codes : (is_exit_code (negsuc 2147483647) ≡ true) × (is_exit_code (pos 2147483648) ≡ false)
ends_of_exit_codes = (refl, refl)

thread_past_the_greatest : IsWithin (continued (pos 9007199254740992)) → ⊥
thread_past_the_greatest h = true≢false (sym h)

-- ---- bodies that can stand in a plain message

failure_is_plain : (IsPlain (failure_body Cancelled)) × (is_plain (failure_response 3 2 (codes "threads") Cancelled) ≡ true)
failure_is_plain = (refl, refl)

-- the body is plain, the command too long
long_command_is_not_plain : is_plain (failure_response 3 2 (replicate 65 97) Cancelled) ≡ false
long_command_is_not_plain = refl

capabilities_are_plain : is_plain (success_response 1 1 (codes "initialize") (Some (initialize_body every_flag []))) ≡ true
capabilities_are_plain = refl

event_is_plain : is_plain (event_message 5 (event_name (exited (negsuc 0))) (event_body (exited (negsuc 0)))) ≡ true
event_is_plain = refl

-- ---- what is offered

-- with what is around, 701 bytes
usual_length : length (compact_text (offer_body usual_offer)) ≡ 189
unfolding escape_byte
usual_length = refl

usually_offered : compact_text (offer_body usual_offer) ≡ codes "{\"supportsCancelRequest\":true,\"supportsConfigurationDoneRequest\":true,\"supportsLoadedSourcesRequest\":true,\"supportsSetVariable\":true,\"supportsStepBack\":true,\"supportsTerminateRequest\":true}"
unfolding escape_byte
usually_offered = refl

room_for_it : (offer_fits 701 usual_offer ≡ true) × (offer_fits 700 usual_offer ≡ false)
unfolding escape_byte
room_for_it = (refl, refl)

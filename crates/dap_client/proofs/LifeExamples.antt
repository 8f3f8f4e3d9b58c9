-- Worked examples of a session's life at the client, each shown by computation: what is sent, what is refused, and what is left.
use Rattle.std.proofs.Common.{◌≡◌, List, [], ◌∷◌, ◌++◌, length, true, Some, None, codes, refl, pos}
use Rattle.std.specs.Prelude.{replicate}
use Rattle.std.specs.Fmt.{digits}
use Rattle.std.specs.Str.{is_utf8, chars}
use Rattle.json.specs.Print.{escape_byte}
use Rattle.serde_json.proofs.OnLiterals.{serde_json_on_literals}
use Rattle.dap_json.specs.Read.{json_of}
use Rattle.dap_frame.specs.Settings.{usual_settings, settings}
use Rattle.dap_call.specs.CallTree.{initialize_members, stack_trace_members, evaluate_members, variables_members}
use Rattle.dap_envelope.specs.Canon.{canon, tree_of, request_members, response_members}
use Rattle.dap_call.specs.declared.call.Call.TheVariants as call
use Rattle.dap_envelope.specs.declared.message.Kind.TheVariants.{Request}
use Rattle.dap_client.specs.declared.fault.ClientFault.TheVariants.{Unmatched, CommandMismatch, SeqExhausted as NoSeq}
use Rattle.dap_client.specs.declared.fault.SendFault.TheVariants.{Ended, WrongPhase, NotSupported, NotStopped, UnknownReference, TooLarge, Full, SeqExhausted}
use Rattle.dap_client.specs.declared.phase.Phase.TheVariants as phase
use Rattle.dap_client.proofs.Played.{At, Step, sends, comes, run, fresh_at, initialize, success, failure, event, initialized, stopped, stack_trace, variables, evaluate, texts_of, written_after}

abbrev at_first : At
at_first = fresh_at usual_settings

-- ---- initialize

first_request : texts_of (run (sends initialize ∷ []) at_first).written ≡ codes "{\"arguments\":{\"adapterID\":\"rec\"},\"command\":\"initialize\",\"seq\":1,\"type\":\"request\"}" ∷ []
unfolding canon tree_of request_members initialize_members escape_byte digits
first_request = refl

after_initialize : ((run (sends initialize ∷ []) at_first).end.session.seen.phase ≡ phase.Initializing)
    × ((run initialized at_first).end.session.seen.phase ≡ phase.Configuring)
    × ((run initialized at_first).end.session.seen.ready ≡ true)
    × ((run initialized at_first).end.session.seen.capabilities.step_back ≡ true)
    × (length (run initialized at_first).end.session.outstanding ≡ 0)
unfolding canon tree_of request_members initialize_members escape_byte digits json_of is_utf8 chars serde_json_on_literals
after_initialize = (refl, refl, refl, refl, refl)

-- a failure lets the client begin again
after_failure : (run (sends initialize ∷ failure 1 (codes "initialize") ∷ []) at_first).end.session.seen.phase ≡ phase.Fresh
unfolding canon tree_of request_members initialize_members escape_byte digits
after_failure = refl

-- ---- responses that answer nothing

second_response : ((run (initialized ++ success 1 (codes "initialize") ∷ []) at_first).end.fault ≡ Some (Unmatched 1))
    × (length (run (initialized ++ success 1 (codes "initialize") ∷ []) at_first).end.session.outstanding ≡ 0)
unfolding canon tree_of request_members initialize_members escape_byte digits json_of is_utf8 chars serde_json_on_literals
second_response = (refl, refl)

other_command : ((run (sends initialize ∷ success 1 (codes "threads") ∷ []) at_first).end.fault ≡ Some (CommandMismatch 1))
    × (length (run (sends initialize ∷ success 1 (codes "threads") ∷ []) at_first).end.session.outstanding ≡ 1)
    × ((run (sends initialize ∷ success 1 (codes "threads") ∷ sends call.Threads ∷ []) at_first).refused ≡ Some Ended)
unfolding canon tree_of request_members initialize_members escape_byte digits
other_command = (refl, refl, refl)

-- ---- three own numbers

abbrev three_numbers : At
three_numbers = fresh_at (settings 8192 4194304 64 65536 4096 3 2147483647)

abbrev three_sent : List Step
three_sent = initialized ++ sends call.Threads ∷ sends call.Threads ∷ []

no_number_left : ((run (three_sent ++ sends call.Threads ∷ []) three_numbers).refused ≡ Some SeqExhausted)
    × (length (run (three_sent ++ sends call.Threads ∷ []) three_numbers).end.session.outstanding ≡ 2)
    × ((run (three_sent ++ sends call.Threads ∷ []) three_numbers).end.fault ≡ None)
    × ((run (three_sent ++ sends call.Threads ∷ []) three_numbers).end.session ≡ (run three_sent three_numbers).end.session)
unfolding canon tree_of request_members initialize_members escape_byte digits json_of is_utf8 chars serde_json_on_literals
no_number_left = (refl, refl, refl, refl)

-- none is left for an answer to the adapter: that closes the client
no_number_to_answer : (run (three_sent ++ comes (record { seq = 9; kind = Request (codes "runInTerminal") None }) ∷ []) three_numbers).end.fault ≡ Some NoSeq
unfolding canon tree_of request_members initialize_members escape_byte digits json_of is_utf8 chars serde_json_on_literals
no_number_to_answer = refl

-- ---- refusals

too_early : (run (sends call.Threads ∷ []) at_first).refused ≡ Some WrongPhase
unfolding canon tree_of request_members escape_byte digits
too_early = refl

not_offered : (run (initialized ++ sends (call.SetFunctionBreakpoints (codes "f" ∷ [])) ∷ []) at_first).refused ≡ Some NotSupported
unfolding canon tree_of request_members initialize_members escape_byte digits json_of is_utf8 chars serde_json_on_literals
not_offered = refl

not_known : (run (stopped ++ sends (variables 99) ∷ []) at_first).refused ≡ Some UnknownReference
unfolding canon tree_of request_members initialize_members variables_members escape_byte digits json_of is_utf8 chars serde_json_on_literals
not_known = refl

-- before the event `initialized` no breakpoint is set
not_ready : (run (sends initialize ∷ success 1 (codes "initialize") ∷ sends (call.SetExceptionBreakpoints []) ∷ []) at_first).refused ≡ Some WrongPhase
unfolding canon tree_of request_members initialize_members escape_byte digits
not_ready = refl

-- nothing is sent once disconnect was
ended : ((run (initialized ++ sends call.Disconnect ∷ sends call.Threads ∷ []) at_first).refused ≡ Some Ended)
    × ((run (initialized ++ sends call.Disconnect ∷ event (codes "exited") ∷ success 2 (codes "disconnect") ∷ []) at_first).end.session.seen.phase ≡ phase.Ended)
    × ((run (sends call.Disconnect ∷ []) at_first).refused ≡ Some WrongPhase)
unfolding canon tree_of request_members initialize_members escape_byte digits json_of is_utf8 chars serde_json_on_literals
ended = (refl, refl, refl)

-- ---- room for two requests, and bodies of 1024 bytes

abbrev two_sent : At
two_sent = fresh_at (settings 8192 1024 2 65536 4096 9007199254740991 2147483647)

abbrev one_waits : List Step
one_waits = stopped ++ sends call.Threads ∷ []

too_large : ((run (one_waits ++ sends (evaluate (replicate 1024 97) None) ∷ []) two_sent).refused ≡ Some TooLarge)
    × (length (run (one_waits ++ sends (evaluate (replicate 1024 97) None) ∷ []) two_sent).end.session.outstanding ≡ 1)
unfolding canon tree_of request_members initialize_members evaluate_members escape_byte digits json_of is_utf8 chars serde_json_on_literals
too_large = (refl, refl)

abbrev going_on : List Step
going_on = one_waits ++ sends (call.Next (pos 1)) ∷ []

resuming : ((run going_on two_sent).end.session.seen.phase ≡ phase.Resuming)
    × ((run (going_on ++ sends stack_trace ∷ []) two_sent).refused ≡ Some NotStopped)
    × ((run (going_on ++ sends call.Threads ∷ []) two_sent).refused ≡ Some Full)
    × ((run (going_on ++ failure 3 (codes "next") ∷ []) two_sent).end.session.seen.phase ≡ phase.Stopped)
    × ((run (going_on ++ success 3 (codes "next") ∷ []) two_sent).end.session.seen.phase ≡ phase.Running)
unfolding canon tree_of request_members initialize_members stack_trace_members escape_byte digits json_of is_utf8 chars serde_json_on_literals
resuming = (refl, refl, refl, refl, refl)

-- the failure of another request leaves it Resuming
other_failure : (run (going_on ++ failure 2 (codes "threads") ∷ []) two_sent).end.session.seen.phase ≡ phase.Resuming
unfolding canon tree_of request_members initialize_members escape_byte digits json_of is_utf8 chars serde_json_on_literals
other_failure = refl

-- a terminate that was sent while the debuggee ran does not make it Stopped by failing
running_terminate : ((run (initialized ++ sends (call.Launch None) ∷ success 2 (codes "launch") ∷ sends call.Terminate ∷ event (codes "stopped") ∷ sends (call.Next (pos 1)) ∷ failure 3 (codes "terminate") ∷ []) at_first).end.session.seen.phase ≡ phase.Resuming)
    × ((run (initialized ++ sends (call.Launch None) ∷ success 2 (codes "launch") ∷ sends call.Terminate ∷ failure 3 (codes "terminate") ∷ []) at_first).end.session.seen.phase ≡ phase.Running)
unfolding canon tree_of request_members initialize_members escape_byte digits json_of is_utf8 chars serde_json_on_literals
running_terminate = (refl, refl)

-- ---- a request of the adapter

declined : texts_of (written_after 1 (run (initialized ++ comes (record { seq = 3; kind = Request (codes "runInTerminal") None }) ∷ []) at_first))
    ≡ codes "{\"body\":{\"error\":{\"format\":\"The command is not supported.\",\"id\":1004}},\"command\":\"runInTerminal\",\"message\":\"unsupported\",\"request_seq\":3,\"seq\":2,\"success\":false,\"type\":\"response\"}" ∷ []
unfolding canon tree_of request_members response_members initialize_members escape_byte digits json_of is_utf8 chars serde_json_on_literals
declined = refl

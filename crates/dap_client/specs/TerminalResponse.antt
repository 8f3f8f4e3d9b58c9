-- What comes of the answer to a request of the adapter that the client kept.
-- Specification, "RunInTerminalResponse". Which refusals there are, and their order, is this profile's choice.
use Rattle.std.specs.Prelude.{ℕ, ◌+◌, List, [], ◌∷◌, Bool, true, false, not, ◌&&◌, nat_le, Option, Some, find}
use Rattle.dap_frame.specs.Written.{frame_of}
use Rattle.dap_message.specs.MessageParts.{failure_response, success_response}
use Rattle.dap_envelope.specs.Canon.{canon}
use Rattle.dap_command.specs.Numbers.{is_number, is_none_or}
use Rattle.dap_body.specs.ResponseBody.{run_in_terminal_body}
use Rattle.dap_body.specs.declared.failure.Failure.TheVariants.{TerminalRefused}
use Rattle.dap_envelope.specs.declared.message.Message.{Message}
use Rattle.dap_call.specs.Terminal.{run_in_terminal}
use Rattle.dap_tables.specs.Outstanding.{contains_seq, without}
use Rattle.dap_client.specs.declared.fault.AnswerFault.{AnswerFault}
use Rattle.dap_client.specs.declared.fault.AnswerFault.TheVariants as fault
use Rattle.dap_client.specs.declared.terminal.Terminal.{Terminal}
use Rattle.dap_client.specs.declared.terminal.Terminal.TheVariants.{Started, Refused}
use Rattle.dap_client.specs.Session.{Session}

-- which can be written: each number of a process is 0 to 2147483647
abbrev pub is_plain_terminal : Terminal → Bool
is_plain_terminal (Started process shell) = is_none_or is_number process && is_none_or is_number shell
is_plain_terminal Refused = true

-- ---- the response

abbrev pub terminal_response : ℕ → ℕ → Terminal → Message
terminal_response number request_seq (Started process shell) = success_response number request_seq run_in_terminal (Some (run_in_terminal_body process shell))
terminal_response number request_seq Refused = failure_response number request_seq run_in_terminal TerminalRefused

-- with the number after the last one used
abbrev pub next_terminal_response : Session → ℕ → Terminal → Message
next_terminal_response s request_seq terminal = terminal_response (s.used + 1) request_seq terminal

-- what is handed out
abbrev pub terminal_response_bytes : Session → ℕ → Terminal → List ℕ
terminal_response_bytes s request_seq terminal = frame_of (canon (next_terminal_response s request_seq terminal))

-- ---- the refusals

-- whether a refusal holds of an answer to that number, at a client that a fault closed or not
abbrev pub terminal_refusal_holds : AnswerFault → ℕ → Bool → Session → Bool
terminal_refusal_holds fault.Ended request_seq closed s = closed
terminal_refusal_holds fault.NotKept request_seq closed s = not (contains_seq request_seq s.incoming)
terminal_refusal_holds fault.SeqExhausted request_seq closed s = nat_le s.limits.seq s.used
terminal_refusal_holds fault.OutOfMemory request_seq closed s = false

abbrev pub terminal_refusals : List AnswerFault
terminal_refusals = fault.Ended ∷ fault.NotKept ∷ fault.SeqExhausted ∷ []

abbrev pub first_terminal_refusal : ℕ → Bool → Session → Option AnswerFault
first_terminal_refusal request_seq closed s = find (λ f. terminal_refusal_holds f request_seq closed s) terminal_refusals

-- ---- the session afterwards

abbrev pub after_terminal_response : ℕ → Session → Session
after_terminal_response request_seq s = record s { incoming = without request_seq s.incoming; used = s.used + 1 }

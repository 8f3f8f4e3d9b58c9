-- Messages before they have their numbers, and with them.
-- Specification, "Response", "Event", "RunInTerminal Request".
use Rattle.std.specs.Prelude.{ℕ, ◌+◌, List, [], ◌∷◌, ◌++◌, codes, Option, Some, None}
use Rattle.std.specs.List.{flat_map}
use Rattle.serde_json.specs.Data.{Data}
use Rattle.dap_frame.specs.Written.{frame_of}
use Rattle.dap_envelope.specs.Canon.{canon}
use Rattle.dap_history.specs.History.{Entry, Asked, Out}
use Rattle.dap_tables.specs.declared.target.Target.{Target}
use Rattle.dap_debuggee.specs.declared.explanation.Explanation.{Explanation}
use Rattle.dap_message.specs.MessageParts.{AdapterEvent, event_name, event_body, success_response, failure_response, explained_response, outcome_response, event_message, request_message}
use Rattle.dap_message.specs.declared.outcome.Outcome.{Outcome}
use Rattle.dap_body.specs.declared.failure.Failure.{Failure}
use Rattle.dap_body.specs.declared.failure.Failure.TheVariants.{Debuggee}
use Rattle.dap_call.specs.declared.terminal.TerminalCall.{TerminalCall}
use Rattle.dap_call.specs.Terminal.{run_in_terminal, terminal_tree}
use Rattle.dap_envelope.specs.declared.message.Kind.TheVariants.{Request as RequestKind}
use Rattle.dap_envelope.specs.declared.message.Message.{Message}
use Rattle.dap_tables.specs.declared.entry.Entry.{Entry as Request}

-- how a request is answered: with a body, and what the references in it name, or with a failure
pub data Answer : Type 0 where
  success : Option Data → List Target → Answer
  failure : Failure → Answer
  -- the failure `debuggee`, with why the debuggee refused
  explained : Explanation → Answer
  -- as whoever holds the adapter says
  came_out : Outcome → Answer

-- what is to be written, before it has its number
pub data Draft : Type 0 where
  reply : Request → Answer → Draft
  emit : AdapterEvent → Draft
  -- the client is asked for a terminal
  ask : Draft
  -- a request of whoever holds the adapter: its command and its arguments
  ask_named : List ℕ → Option Data → Draft

-- without a body
abbrev pub plain_success : Answer
plain_success = success None []

-- which failure of the profile it is, with or without a reason
abbrev pub failure_in : Answer → Option Failure
failure_in (success body names) = None
failure_in (failure f) = Some f
failure_in (explained e) = Some Debuggee
failure_in (came_out o) = None

-- ---- own requests

-- what the client's terminal is to run
abbrev pub recorded_terminal : TerminalCall
recorded_terminal = record { kind = Some (codes "integrated"); title = Some (codes "recorded"); cwd = codes "/"; args = codes "recorded" ∷ [] }

-- the request for a terminal, with this number, as a history has it
abbrev pub own_request : ℕ → Asked
own_request seq = record { seq = seq; command = run_in_terminal; arguments = Some (terminal_tree recorded_terminal) }

-- and one of whoever holds the adapter
abbrev pub named_request : ℕ → List ℕ → Option Data → Asked
named_request seq command arguments = record { seq = seq; command = command; arguments = arguments }

-- ---- messages

abbrev pub answer_message : ℕ → Request → Answer → Message
answer_message seq r (success body names) = success_response seq r.seq r.command body
answer_message seq r (failure f) = failure_response seq r.seq r.command f
answer_message seq r (explained e) = explained_response seq r.seq r.command e.show_user e.text
answer_message seq r (came_out o) = outcome_response seq r.seq r.command o

abbrev pub message_of : ℕ → Draft → Message
message_of seq (reply r answer) = answer_message seq r answer
message_of seq (emit event) = event_message seq (event_name event) (event_body event)
message_of seq ask = record { seq = seq; kind = RequestKind run_in_terminal (Some (terminal_tree recorded_terminal)) }
message_of seq (ask_named command arguments) = request_message seq command arguments

abbrev pub names_in : Answer → List Target
names_in (success body names) = names
names_in (failure f) = []
names_in (explained e) = []
names_in (came_out o) = []

abbrev pub names_of : Draft → List Target
names_of (reply r answer) = names_in answer
names_of (emit event) = []
names_of ask = []
names_of (ask_named command arguments) = []

-- drafts with the own numbers after the last one used
abbrev pub numbered_messages : ℕ → List Draft → List Message
numbered_messages used [] = []
numbered_messages used (d ∷ ds) = message_of (used + 1) d ∷ numbered_messages (used + 1) ds

-- the requests for a terminal among them
abbrev pub request_of : ℕ → Draft → List Asked
request_of seq (reply r answer) = []
request_of seq (emit event) = []
request_of seq ask = own_request seq ∷ []
request_of seq (ask_named command arguments) = []

abbrev pub requests_in : ℕ → List Draft → List Asked
requests_in used [] = []
requests_in used (d ∷ ds) = request_of (used + 1) d ++ requests_in (used + 1) ds

-- and those of whoever holds the adapter
abbrev pub named_of : ℕ → Draft → List Asked
named_of seq (reply r answer) = []
named_of seq (emit event) = []
named_of seq ask = []
named_of seq (ask_named command arguments) = named_request seq command arguments ∷ []

abbrev pub named_in : ℕ → List Draft → List Asked
named_in used [] = []
named_in used (d ∷ ds) = named_of (used + 1) d ++ named_in (used + 1) ds

-- as they stand in a history
abbrev pub outs : ℕ → List Draft → List Entry
outs used [] = []
outs used (d ∷ ds) = Out (message_of (used + 1) d) (names_of d) ∷ outs (used + 1) ds

-- as they are handed out
abbrev pub bytes_of : List Message → List ℕ
bytes_of messages = flat_map (λ m. frame_of (canon m)) messages

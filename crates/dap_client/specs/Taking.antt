-- What comes of a message that is delivered.
-- Specification, "Response", "Event" and "RunInTerminalRequest". What closes the client, and which requests of the adapter are answered at once, is this profile's choice.
use Rattle.std.specs.Prelude.{ℕ, ◌+◌, List, [], ◌∷◌, ◌++◌, length, map, Bool, ◌&&◌, nat_le, nat_lt, bytes_eq, Option, Some, None, Result, Ok, Err, if◌then◌else◌}
use Rattle.std.specs.List.{flat_map}
use Rattle.serde_json.specs.Data.{Data}
use Rattle.dap_frame.specs.Written.{frame_of}
use Rattle.dap_envelope.specs.Canon.{canon}
use Rattle.dap_command.specs.Command.{command_named}
use Rattle.dap_history.specs.History.{Entry, Out}
use Rattle.dap_message.specs.MessageParts.{failure_response}
use Rattle.dap_call.specs.Argument.{Read}
use Rattle.dap_call.specs.Terminal.{run_in_terminal, terminal_of}
use Rattle.dap_body.specs.declared.failure.Failure.{Failure}
use Rattle.dap_body.specs.declared.failure.Failure.TheVariants.{Unsupported, BadArguments, Busy}
use Rattle.dap_call.specs.declared.terminal.TerminalCall.{TerminalCall}
use Rattle.dap_envelope.specs.declared.message.Message.{Message}
use Rattle.dap_envelope.specs.declared.message.Kind.{Kind}
use Rattle.dap_envelope.specs.declared.message.Kind.TheVariants.{Request, Response, Event, Other}
use Rattle.dap_tables.specs.Outstanding.{contains_seq, entry_with, kept_unparked, without}
use Rattle.dap_tables.specs.declared.entry.Entry.{Entry as Waiting}
use Rattle.dap_client.specs.declared.fault.ClientFault.{ClientFault}
use Rattle.dap_client.specs.declared.fault.ClientFault.TheVariants.{Unmatched, CommandMismatch, RepeatedSeq, ReferenceLimit, SeqExhausted}
use Rattle.dap_client.specs.Changes.{signal_named}
use Rattle.dap_client.specs.Seen.{Seen, known_after, after_response, after_event}
use Rattle.dap_client.specs.Session.{Session}

-- what is written, and the session afterwards
pub record Made : Type 0 where
  pub written : List Message
  pub after : Session

-- nothing is written
abbrev pub made_without_writing : Session → Made
made_without_writing s = record { written = []; after = s }

-- as it stands in a history
abbrev pub entries_of : Made → List Entry
entries_of m = map (λ written. Out written []) m.written

-- as it is handed out
abbrev pub bytes_of : Made → List ℕ
bytes_of m = flat_map (λ written. frame_of (canon written)) m.written

-- ---- a request of the adapter

-- by its arguments, and by whether there is room
abbrev pub failure_of_terminal : Read TerminalCall → Bool → Option Failure
failure_of_terminal (Err key) is_full = Some (BadArguments key)
failure_of_terminal (Ok call) is_full = if is_full then Some Busy else None

-- the failure with which a request is answered at once, if it is; only `runInTerminal` is kept
abbrev pub failure_at_once : List ℕ → Option Data → Bool → Bool → Option Failure
failure_at_once command arguments announced is_full =
    if bytes_eq command run_in_terminal && announced then failure_of_terminal (terminal_of arguments) is_full else Some Unsupported

abbrev pub failure_in : Waiting → Session → Option Failure
failure_in request s = failure_at_once request.command request.arguments s.seen.announced (nat_le s.limits.requests (length s.incoming))

-- answered at once
abbrev pub made_by_declining : ℕ → List ℕ → Failure → Session → Made
made_by_declining seq command failure s = record { written = failure_response (s.used + 1) seq command failure ∷ []; after = record s { used = s.used + 1 } }

abbrev pub declines : ℕ → List ℕ → Failure → Session → Result Made ClientFault
declines seq command failure s = if nat_lt s.used s.limits.seq then Ok (made_by_declining seq command failure s) else Err SeqExhausted

abbrev pub request_from : ℕ → List ℕ → Option Data → Waiting
request_from seq command arguments = record { seq = seq; command = command; arguments = arguments }

-- kept until it is answered
abbrev pub made_by_keeping : Waiting → Session → Made
made_by_keeping request s = made_without_writing (record s { incoming = s.incoming ++ kept_unparked request ∷ [] })

abbrev pub keeps_or_declines : Option Failure → Waiting → Session → Result Made ClientFault
keeps_or_declines None request s = Ok (made_by_keeping request s)
keeps_or_declines (Some failure) request s = declines request.seq request.command failure s

abbrev pub takes_request : Waiting → Session → Result Made ClientFault
takes_request request s =
    if contains_seq request.seq s.incoming
    then Err (RepeatedSeq request.seq)
    else keeps_or_declines (failure_in request s) request s

-- ---- a response

-- its request is answered
abbrev pub made_by_answer : ℕ → Seen → Session → Made
made_by_answer request_seq seen s = made_without_writing (record s { seen = seen; outstanding = without request_seq s.outstanding })

-- unless more references would be known than there may be
abbrev pub answered_within : ℕ → Bool → List ℕ → Option Data → Session → Result Made ClientFault
answered_within request_seq ok command body s =
    if nat_le (length (known_after ok (command_named command) body s.seen)) s.limits.references
    then Ok (made_by_answer request_seq (after_response request_seq ok (command_named command) body s.seen) s)
    else Err ReferenceLimit

-- of the request that waits, if one does
abbrev pub takes_answer : Option Waiting → ℕ → Bool → List ℕ → Option Data → Session → Result Made ClientFault
takes_answer None request_seq ok command body s = Err (Unmatched request_seq)
takes_answer (Some r) request_seq ok command body s = if bytes_eq command r.command then answered_within request_seq ok command body s else Err (CommandMismatch request_seq)

-- ---- messages

abbrev pub takes_as : ℕ → Kind → Session → Result Made ClientFault
takes_as seq (Request command arguments) s = takes_request (request_from seq command arguments) s
takes_as seq (Response request_seq ok command message body) s = takes_answer (entry_with request_seq s.outstanding) request_seq ok command body s
takes_as seq (Event event body) s = Ok (made_without_writing (record s { seen = after_event (signal_named event) body s.seen }))
takes_as seq (Other tag) s = Ok (made_without_writing s)

-- what a delivered message comes to, or why it closes the client
abbrev pub takes : Message → Session → Result Made ClientFault
takes m s = takes_as m.seq m.kind s

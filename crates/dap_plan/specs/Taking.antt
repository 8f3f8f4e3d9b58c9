-- What comes of a message that is delivered.
-- Specification, "CancelRequest", "Request.seq", "RunInTerminal Request". What is refused, and in which order, is this profile's choice.
use Rattle.std.specs.Prelude.{ℕ, ◌+◌, List, [], ◌∷◌, ◌++◌, length, Bool, true, false, bytes_eq, not, nat_lt, Option, Some, None, Result, Ok, Err, if◌then◌else◌}
use Rattle.dap_debuggee.specs.Shown.{Reply, refused, to_start}
use Rattle.dap_call.specs.Terminal.{run_in_terminal}
use Rattle.dap_call.specs.Argument.{Read}
use Rattle.dap_call.specs.Call.{call_of}
use Rattle.dap_call.specs.declared.call.Call.{Call}
use Rattle.dap_call.specs.declared.call.Call.TheVariants as call
use Rattle.dap_command.specs.declared.command.Command.{Command}
use Rattle.dap_command.specs.declared.command.Command.TheVariants as command
use Rattle.dap_body.specs.declared.failure.Failure.TheVariants.{NotInitialized, BadArguments, Busy, Cancelled}
use Rattle.dap_envelope.specs.declared.message.Message.{Message}
use Rattle.dap_envelope.specs.declared.message.Kind.{Kind}
use Rattle.dap_envelope.specs.declared.message.Kind.TheVariants.{Request, Response, Event, Other}
use Rattle.dap_tables.specs.Outstanding.{Kept, kept_unparked, contains_seq, entry_with, without}
use Rattle.dap_tables.specs.declared.entry.Entry.{Entry}
use Rattle.dap_decision.specs.declared.phase.Phase.{Phase}
use Rattle.dap_decision.specs.declared.phase.Phase.TheVariants.{Fresh, Asked, Ended}
use Rattle.dap_plan.specs.declared.fault.AdapterFault.{AdapterFault}
use Rattle.dap_plan.specs.declared.fault.AdapterFault.TheVariants.{RepeatedSeq, Unmatched, CommandMismatch, Ended as EndedFault}
use Rattle.dap_decision.specs.Failures.{command_of, of_known}
use Rattle.dap_plan.specs.Handling.{answer_each, answer_parked, start_phase}
use Rattle.dap_plan.specs.Plan.{Made, Plan, at_once, asking, no_change, plan_within_numbers}
use Rattle.dap_outbox.specs.Draft.{Answer, failure, plain_success, reply}
use Rattle.dap_outbox.specs.Waiting.{starting_ones, not_starting_ones}
use Rattle.dap_plan.specs.Session.{Session, cancelled_by, not_cancelled_by, is_asked}
use Rattle.dap_decision.specs.Table.{is_phase}

-- ---- a request that is answered when it is taken, and never kept

abbrev pub after_answering_at_once : Entry → Answer → Session → Made
after_answering_at_once r answer s = record { drafts = reply r answer ∷ []; drops = false; after = record s { used = s.used + 1 } }

-- ---- cancel

abbrev pub is_cancel : Command → Bool
is_cancel command.Cancel = true
is_cancel _ = false

-- the number that it has
abbrev pub id_in : Call → Option ℕ
id_in (call.Cancel id) = id
id_in _ = None

-- the requests that it names: kept, with that number, and not waiting for the debuggee to start
abbrev pub named_by : Option ℕ → List Kept → List Kept
named_by None kept = []
named_by (Some seq) kept = cancelled_by seq kept

-- and those that it doesn't
abbrev pub unnamed_by : Option ℕ → List Kept → List Kept
unnamed_by None kept = kept
unnamed_by (Some seq) kept = not_cancelled_by seq kept

-- what it names is answered, then itself
abbrev pub after_cancel : Option ℕ → Entry → Session → Made
after_cancel id r s = record {
  drafts = answer_each (failure Cancelled) (named_by id s.kept) ++ reply r plain_success ∷ [];
  drops = false;
  after = record s { kept = unnamed_by id s.kept; used = s.used + (length (named_by id s.kept) + 1) };
}

abbrev pub after_cancel_call : Read Call → Entry → Session → Made
after_cancel_call (Err key) r s = after_answering_at_once r (failure (BadArguments key)) s
after_cancel_call (Ok asked) r s = after_cancel (id_in asked) r s

abbrev pub after_cancel_request : Entry → Session → Made
after_cancel_request r s =
    if is_phase Fresh s.phase then after_answering_at_once r (failure NotInitialized) s
    else after_cancel_call (call_of command.Cancel r.arguments) r s

-- ---- requests

-- kept to be handled, or answered that there is no room
abbrev pub after_keeping : Entry → Session → Made
after_keeping r s =
    if nat_lt (length s.kept) s.limits.requests
    then record { drafts = []; drops = false; after = record s { kept = s.kept ++ kept_unparked r ∷ [] } }
    else after_answering_at_once r (failure Busy) s

abbrev pub after_taking : Entry → Session → Made
after_taking r s = if of_known is_cancel (command_of r) then after_cancel_request r s else after_keeping r s

abbrev pub takes_request : Entry → Session → Result Plan AdapterFault
takes_request r s =
    if is_phase Ended s.phase then Err EndedFault
    else (if contains_seq r.seq s.kept then Err (RepeatedSeq r.seq)
    else plan_within_numbers s (at_once (after_taking r s)))

-- ---- responses

-- To the request for a terminal: Specification, "RunInTerminal Request". What a response does, and when it comes too late, is this profile's choice.

-- what waited for that is answered, as the debuggee started or not
abbrev pub after_terminal : Session → Reply → Made
after_terminal s last = record {
  drafts = answer_parked s (starting_ones s.kept) last;
  drops = false;
  after = record s { phase = start_phase last; kept = not_starting_ones s.kept; asked = None; used = s.used + length (starting_ones s.kept) };
}

-- it comes too late to have an effect
abbrev pub after_late_terminal : Session → Made
after_late_terminal s = record { drafts = []; drops = false; after = record s { asked = None } }

-- a success lets the debuggee start; without one it is not asked, and nobody says why
abbrev pub plan_of_terminal : Bool → Session → Plan
plan_of_terminal true s = asking to_start (after_terminal s)
plan_of_terminal false s = at_once (after_terminal s (refused None))

abbrev pub plan_of_response : Bool → Session → Plan
plan_of_response ok s = if is_phase Asked s.phase then plan_of_terminal ok s else at_once (after_late_terminal s)

abbrev pub takes_terminal_response : ℕ → Bool → List ℕ → Session → Result Plan AdapterFault
takes_terminal_response request_seq ok command s =
    if not (is_asked request_seq s.asked) then Err (Unmatched request_seq)
    else (if not (bytes_eq command run_in_terminal) then Err (CommandMismatch request_seq)
    else plan_within_numbers s (plan_of_response ok s))

-- To a request of whoever holds the adapter: it waits no more, and nothing else comes of it. What the response says is theirs.

abbrev pub after_own_response : ℕ → Session → Made
after_own_response request_seq s = record { drafts = []; drops = false; after = record s { own = without request_seq s.own } }

abbrev pub takes_own_response : ℕ → List ℕ → Entry → Session → Result Plan AdapterFault
takes_own_response request_seq command r s =
    if bytes_eq command r.command then Ok (at_once (after_own_response request_seq s))
    else Err (CommandMismatch request_seq)

-- of the request of whoever holds the adapter that has this number, if there is one
abbrev pub takes_response_of : Option Entry → ℕ → Bool → List ℕ → Session → Result Plan AdapterFault
takes_response_of None request_seq ok command s = takes_terminal_response request_seq ok command s
takes_response_of (Some r) request_seq ok command s = takes_own_response request_seq command r s

abbrev pub takes_response : ℕ → Bool → List ℕ → Session → Result Plan AdapterFault
takes_response request_seq ok command s = takes_response_of (entry_with request_seq s.own) request_seq ok command s

-- ---- messages

-- the messages that may take memory: a response where a terminal is waited for
abbrev pub may_take_memory : Kind → Phase → Bool
may_take_memory (Request command arguments) phase = true
may_take_memory (Response request_seq ok command message body) phase = is_phase Asked phase
may_take_memory _ phase = false

abbrev pub takes_as : ℕ → Kind → Session → Result Plan AdapterFault
takes_as seq (Request command arguments) s = takes_request (record { seq = seq; command = command; arguments = arguments }) s
takes_as seq (Response request_seq ok command message body) s = takes_response request_seq ok command s
takes_as seq (Event event body) s = Ok (at_once (no_change s))
takes_as seq (Other tag) s = Ok (at_once (no_change s))

-- what a delivered message comes to, or why it closes the adapter
abbrev pub takes : Message → Session → Result Plan AdapterFault
takes m s = takes_as m.seq m.kind s

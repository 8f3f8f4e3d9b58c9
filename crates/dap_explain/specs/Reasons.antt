-- Why a line breaks a rule, told by the earlier lines that it stands against.
use Rattle.std.specs.Prelude.{◌≡◌, ℕ, List, [], ◌∷◌, ◌+◌, ◌==◌, Bool, false, ◌&&◌, ◌||◌, codes, count_by, if◌then◌else◌, Option, Some, None, is_some, is_none, option_map, option_and_then}
use Rattle.serde_json.specs.Data.{Data, Num, unsigned, negative, float}
use Rattle.dap_command.specs.Command.{command_named, gate_of}
use Rattle.dap_command.specs.declared.command.Gate.{Gate}
use Rattle.dap_envelope.specs.declared.message.Kind.{Kind}
use Rattle.dap_envelope.specs.declared.message.Kind.TheVariants.{Request, Response, Event, Other}
use Rattle.dap_check.specs.Since.{first_since, last_since, Past}
use Rattle.dap_check.specs.Lines.{other_side, is_request_among, is_request_for, arguments_of, is_of, asks, asks_as, asks_for, answers, succeeds, is_adapter_event}
use Rattle.dap_check.specs.Places.{decided_by, switches_on, switches_off}
use Rattle.dap_check.specs.Rules.{is_broken, initialize, disconnect, gives_frame, gives_holder, resumes, number_at, naming_frames, naming_holders}
use Rattle.dap_check.specs.declared.line.Line.{Line}
use Rattle.dap_check.specs.declared.line.Side.{Side}
use Rattle.dap_check.specs.declared.line.Side.TheVariants.{Client, Adapter}
use Rattle.dap_explain.specs.declared.reason.Reason.{Reason}
use Rattle.dap_explain.specs.declared.reason.Reason.TheVariants.{Numbered, NotAsked, Answered, OtherCommand, Waits, NotInitialize, FirstWaits, NeverAsked, InitializeWaits, InitializeFailed, NotInitialized, NotOffered, Negative, NeverGiven, OtherKind, Gone, Ended}
use Rattle.dap_explain.specs.declared.reason.ReferenceKind.{ReferenceKind}
use Rattle.dap_explain.specs.declared.reason.ReferenceKind.TheVariants.{Frame, Variables}
use Rattle.dap_check.specs.declared.rule.AnySeq.TheVariants.{OfNone}
use Rattle.dap_check.specs.declared.rule.Rule.{Rule}
use Rattle.dap_check.specs.declared.rule.Rule.TheVariants.{Seq, Answer, FirstRequest, Initialized, Gate as GateRule, Reference, Disconnect}
use Rattle.dap_explain.specs.declared.trail.Opened.{Opened}
use Rattle.dap_explain.specs.declared.trail.Trail.{Trail}

-- ---- of the lines that open: how many there are, the last, and the first since that closes, by the number of the last

abbrev pub opened_of : Past Line → Opened
opened_of past = record { line = past.line.number; seq = past.line.message.seq }

abbrev pub closing_line : (ℕ → Line → Bool) → Past Line → Option ℕ
closing_line closes past = option_map (λ closed. closed.line.number) (first_since (closes past.line.message.seq) past.since)

abbrev pub trail : (Line → Bool) → (ℕ → Line → Bool) → List Line → Trail
trail opens closes earlier = record { count = count_by opens earlier; opened = option_map opened_of (last_since opens earlier); closed = option_and_then (closing_line closes) (last_since opens earlier) }

abbrev pub no_line : ℕ → Line → Bool
no_line n line = false

abbrev pub is_open_still : Trail → Bool
is_open_still t = is_some t.opened && is_none t.closed

-- ---- numbers

abbrev pub why_number : ℕ → Trail → Option Reason
why_number seq messages = if seq == messages.count + 1 then None else Some (Numbered (messages.count + 1) (option_map (λ last. last.line) messages.opened))

-- ---- answers

-- a request with a number, by the last request of its side with it, and the first response to that
abbrev pub waiting_reason : ℕ → Option Opened → Option ℕ → Option Reason
waiting_reason seq (Some asked) None = Some (Waits seq asked.line)
waiting_reason seq (Some asked) (Some answered) = None
waiting_reason seq None closed = None

abbrev pub why_waiting : ℕ → Trail → Option Reason
why_waiting seq requests = waiting_reason seq requests.opened requests.closed

-- a response, by the last request of the other side with its number, and the first response to that
abbrev pub not_asked_reason : ℕ → Option Opened → Option ℕ → Reason
not_asked_reason seq (Some asked) None = OtherCommand seq asked.line
not_asked_reason seq (Some asked) (Some answered) = Answered seq asked.line answered
not_asked_reason seq None closed = NotAsked seq

-- where no such request with its command waits
abbrev pub why_not_asked : ℕ → Trail → Trail → Option Reason
why_not_asked seq requests_for requests = if is_open_still requests_for then None else Some (not_asked_reason seq requests.opened requests.closed)

abbrev pub answer_reason : List Line → Side → ℕ → Kind → Option Reason
answer_reason earlier side seq (Request command arguments) = why_waiting seq (trail (asks_as side seq) (λ n. answers (other_side side) seq) earlier)
answer_reason earlier side seq (Response request_seq success command message body) =
    why_not_asked request_seq (trail (asks_for (other_side side) request_seq command) (λ n. answers (other_side (other_side side)) request_seq) earlier) (trail (asks_as (other_side side) request_seq) (λ n. answers (other_side (other_side side)) request_seq) earlier)
answer_reason earlier side seq (Event event body) = None
answer_reason earlier side seq (Other tag) = None

-- ---- the client's first request

-- a second request, by the first, and the first response to that
abbrev pub second_request_reason : Option Opened → Option ℕ → Option Reason
second_request_reason (Some asked) None = Some (FirstWaits asked.line)
second_request_reason (Some asked) (Some answered) = None
second_request_reason None closed = None

-- by the requests of the client
abbrev pub why_early : Bool → Trail → Option Reason
why_early is_initialize requests = if requests.count == 0 then (if is_initialize then None else Some NotInitialize) else (if requests.count == 1 then second_request_reason requests.opened requests.closed else None)

abbrev pub first_request_reason : List Line → Line → Option Reason
first_request_reason earlier line = if asks Client line then why_early (is_request_for (codes "initialize") line.message.kind) (trail (asks Client) (answers Adapter) earlier) else None

-- ---- the event `initialized`

abbrev pub asks_to_initialize : Line → Bool
asks_to_initialize line = is_of Client line && is_request_for (codes "initialize") line.message.kind

-- by the last request to initialize, and the first response to that
abbrev pub no_initialize_reason : Option Opened → Option ℕ → Reason
no_initialize_reason (Some asked) None = InitializeWaits asked.line
no_initialize_reason (Some asked) (Some answered) = InitializeFailed answered
no_initialize_reason None closed = NeverAsked

-- where no response to `initialize` has succeeded
abbrev pub why_uninitialized : Trail → Trail → Option Reason
why_uninitialized successes requests = if is_some successes.opened then None else Some (no_initialize_reason requests.opened requests.closed)

abbrev pub initialized_reason : List Line → Line → Option Reason
initialized_reason earlier line = if is_adapter_event (codes "initialized" ∷ []) line then why_uninitialized (trail (succeeds initialize) no_line earlier) (trail asks_to_initialize (answers Adapter) earlier) else None

-- ---- gates

abbrev pub decides : Gate → Line → Bool
decides gate line = is_some (decided_by gate line)

-- by the responses to `initialize` that succeed, the lines that switch the flag on, and those that switch it at all
abbrev pub why_refused : Gate → Trail → Trail → Trail → Option Reason
why_refused gate successes on switches = if is_some successes.opened then (if is_open_still on then None else option_map (λ last. NotOffered gate last.line) switches.opened) else Some (NotInitialized gate)

abbrev pub gate_reason : List Line → Option Gate → Option Reason
gate_reason earlier None = None
gate_reason earlier (Some gate) = why_refused gate (trail (succeeds initialize) no_line earlier) (trail (switches_on gate) (λ n. switches_off gate) earlier) (trail (decides gate) no_line earlier)

abbrev pub gate_asked : Kind → Option Gate
gate_asked (Request command arguments) = option_and_then gate_of (command_named command)
gate_asked (Response request_seq success command message body) = None
gate_asked (Event event body) = None
gate_asked (Other tag) = None

-- ---- references

abbrev pub other_kind : ReferenceKind → ReferenceKind
other_kind Frame = Variables
other_kind Variables = Frame

abbrev pub key_of : ReferenceKind → List ℕ
key_of Frame = codes "frameId"
key_of Variables = codes "variablesReference"

abbrev pub gives : ReferenceKind → ℕ → Line → Bool
gives Frame n = gives_frame n
gives Variables n = gives_holder n

-- a number that was not given in its kind, by the last line that gives it in the other
abbrev pub not_given_reason : ReferenceKind → ℕ → Option Opened → Reason
not_given_reason kind n None = NeverGiven kind n
not_given_reason kind n (Some other) = OtherKind kind n other.line

-- by the last line that gives it in its kind, and the first since that lets the debuggee go on
abbrev pub unknown_reason : ReferenceKind → ℕ → Option Opened → Option ℕ → Option Opened → Option Reason
unknown_reason kind n (Some given) None others = None
unknown_reason kind n (Some given) (Some resumed) others = Some (Gone kind n given.line resumed)
unknown_reason kind n None resumed others = Some (not_given_reason kind n others)

abbrev pub why_unknown : ReferenceKind → ℕ → Trail → Trail → Option Reason
why_unknown kind n given others = unknown_reason kind n given.opened given.closed others.opened

abbrev pub number_reason : List Line → ReferenceKind → Option Num → Option Reason
number_reason earlier kind None = None
number_reason earlier kind (Some (unsigned n)) = why_unknown kind n (trail (gives kind n) (λ m. resumes) earlier) (trail (gives (other_kind kind) n) (λ m. resumes) earlier)
number_reason earlier kind (Some (negative z)) = Some (Negative kind)
number_reason earlier kind (Some (float x)) = None

-- which kind a request names
abbrev pub kind_named : Kind → Option ReferenceKind
kind_named kind = if is_request_among naming_frames kind then Some Frame else (if is_request_among naming_holders kind then Some Variables else None)

abbrev pub reference_reason : List Line → Option ReferenceKind → Option Data → Option Reason
reference_reason earlier None arguments = None
reference_reason earlier (Some kind) arguments = number_reason earlier kind (number_at (key_of kind) arguments)

-- ---- the end

-- by the responses to `disconnect` that succeed
abbrev pub why_ended : Trail → Option Reason
why_ended successes = option_map (λ last. Ended last.line) successes.opened

abbrev pub end_reason : List Line → Line → Option Reason
end_reason earlier line = if asks Client line || is_of Adapter line then why_ended (trail (succeeds disconnect) no_line earlier) else None

-- ---- all seven

-- why a line breaks a rule where it stands after these, or None where it does not
abbrev pub reason_of : Rule → List Line → Line → Option Reason
reason_of Seq earlier line = why_number line.message.seq (trail (is_of line.side) no_line earlier)
reason_of Answer earlier line = answer_reason earlier line.side line.message.seq line.message.kind
reason_of FirstRequest earlier line = first_request_reason earlier line
reason_of Initialized earlier line = initialized_reason earlier line
reason_of GateRule earlier line = if is_of Client line then gate_reason earlier (gate_asked line.message.kind) else None
reason_of Reference earlier line = if is_of Client line then reference_reason earlier (kind_named line.message.kind) (arguments_of line.message.kind) else None
reason_of Disconnect earlier line = end_reason earlier line

-- a line has a reason just where it breaks the rule
abbrev pub BrokenRulesHaveReasons : Type 0
BrokenRulesHaveReasons = (rule : Rule) (earlier : List Line) (line : Line) → is_some (reason_of rule earlier line) ≡ is_broken OfNone rule earlier line

-- How a kept request is handled: what the debuggee is asked, what is written, what is left.
-- Overview, "Initialization" to "Debug session end"; the responses of the Specification. What of this the protocol leaves open is this profile's choice.
use Rattle.std.specs.Prelude.{ℕ, ◌+◌, ◌-◌, List, [], ◌∷◌, ◌++◌, length, map, Bool, true, false, nat_le, Option, Some, None, option_map, option_and_then, unwrap_or, codes, bytes_eq, ◌&&◌, Result, Ok, Err, if◌then◌else◌}
use Rattle.std.specs.List.{zip, range_with_len, list_all, list_any}
use Rattle.serde_json.specs.Data.{Data}
use Rattle.dap_json.specs.Field.{text_at}
use Rattle.dap_call.specs.Argument.{Read}
use Rattle.dap_envelope.specs.Canon.{canon}
use Rattle.dap_message.specs.MessageParts.{initialized, terminated, success_response}
use Rattle.dap_body.specs.ResponseBody.{continue_body, set_breakpoints_body, set_variable_body, offer_body}
use Rattle.dap_body.specs.declared.response.Breakpoint.{Breakpoint as BreakpointBody}
use Rattle.dap_call.specs.declared.call.Call.{Call}
use Rattle.dap_call.specs.declared.call.Call.TheVariants as call
use Rattle.dap_command.specs.declared.command.Command.{Command}
use Rattle.dap_command.specs.declared.command.Command.TheVariants as command
use Rattle.dap_body.specs.declared.failure.Failure.{Failure}
use Rattle.dap_body.specs.declared.failure.Failure.TheVariants.{Debuggee, TooManyBreakpoints, TooLarge, Cancelled}
use Rattle.dap_call.specs.declared.call.SetVariable.{SetVariable}
use Rattle.dap_command.specs.declared.source_key.SourceKey.{SourceKey}
use Rattle.dap_tables.specs.Outstanding.{Kept, without, with_mark}
use Rattle.dap_tables.specs.declared.entry.Entry.{Entry}
use Rattle.dap_debuggee.specs.Shown.{Shown, Act, to_start, to_resume, to_pause, to_set_breakpoints, to_assign, to_end, Reply, done, reason_of, Query, for_frames, for_scopes, for_children, for_value, for_assigned, for_content, for_verified}
use Rattle.dap_debuggee.specs.declared.answers.Assigned.{Assigned}
use Rattle.dap_debuggee.specs.declared.answers.How.{How}
use Rattle.dap_debuggee.specs.declared.explanation.Explanation.{Explanation}
use Rattle.dap_debuggee.specs.declared.answers.How.TheVariants as how
use Rattle.dap_decision.specs.declared.phase.Phase.{Phase}
use Rattle.dap_decision.specs.declared.phase.Phase.TheVariants.{Ready, Configured, Parked, Asked, Running, Exited, Ended}
use Rattle.dap_decision.specs.declared.effect.Effect.{Effect}
use Rattle.dap_decision.specs.declared.effect.Effect.TheVariants as effect
use Rattle.dap_query.specs.declared.options.Options.{Options}
use Rattle.dap_plan.specs.declared.fault.AdapterFault.{AdapterFault}
use Rattle.dap_query.specs.Bodies.{QueryResult, query_result, line_shown}
use Rattle.dap_query.specs.Queries.{object_of, usual_options}
use Rattle.dap_plan.specs.Breakpoints.{are_too_many}
use Rattle.dap_tables.specs.Breakpoints.{SetBreakpoints, breakpoints_with}
use Rattle.dap_decision.specs.Failures.{command_of, call_in, thread_of, refusal_in}
use Rattle.dap_plan.specs.Plan.{Made, Plan, at_once, asking, no_change, after_answering, plan_within_numbers}
use Rattle.dap_outbox.specs.Outbox.{explanation_fits_as}
use Rattle.dap_outbox.specs.Draft.{Answer, success, failure, explained, plain_success, Draft, reply, emit, ask}
use Rattle.dap_tables.specs.References.{without_references}
use Rattle.dap_plan.specs.Session.{Session, oldest, query_of}
use Rattle.dap_outbox.specs.Waiting.{starting_ones, not_starting_ones}
use Rattle.dap_plan.specs.Lending.{opened_in, plan_of_lending}
use Rattle.dap_decision.specs.Table.{effect_in}
use Rattle.dap_debuggee.specs.declared.answers.Placement.{Placement}

-- ---- initialize

abbrev pub options_of : Call → Options
options_of (call.Initialize asked) = record { lines_start_at_1 = asked.lines_start_at_1; columns_start_at_1 = asked.columns_start_at_1; supports_variable_paging = asked.supports_variable_paging; supports_run_in_terminal_request = asked.supports_run_in_terminal_request }
options_of _ = usual_options

-- what this adapter offers
abbrev pub after_initialize : Session → Entry → Call → Made
after_initialize s r asked = record {
  drafts = reply r (success (Some (offer_body s.offers)) []) ∷ emit initialized ∷ [];
  drops = false;
  after = record s { phase = Ready; options = options_of asked; kept = without r.seq s.kept; used = s.used + 2 };
}

-- ---- what has to fit a message

-- the response has at most as many bytes as a body may have
abbrev pub fits : Session → Entry → Option Data → Bool
fits s r body = nat_le (length (canon (success_response (s.used + 1) r.seq r.command body))) s.limits.body

-- so has the failure with this reason
abbrev pub fits_explained : Session → Entry → Explanation → Bool
fits_explained s r told = explanation_fits_as (s.used + 1) s.limits.body r told

abbrev pub explained_if : Bool → Explanation → Answer
explained_if fits told = if fits then explained told else failure Debuggee

-- a failure: what the debuggee refused with the reason that it gives, where it gives one and that fits; any other without
abbrev pub failing : Session → Entry → Failure → Option Explanation → Answer
failing s r Debuggee (Some told) = explained_if (fits_explained s r told) told
failing s r f _ = failure f

-- The same of what waits for the debuggee to start, which is answered alike: the reason is given where it fits in the answer to each of them, whatever
-- own number that has.
abbrev pub fits_explained_each : Session → List Kept → Explanation → Bool
fits_explained_each s parked told = list_all (λ k. explanation_fits_as s.limits.seq s.limits.body k.entry told) parked

abbrev pub failing_each : Session → List Kept → Option Explanation → Answer
failing_each s parked None = failure Debuggee
failing_each s parked (Some told) = explained_if (fits_explained_each s parked told) told

-- ---- launch, attach and configurationDone

-- a success without a body where the debuggee did what it was asked; else the failure, with the reason that it gives
abbrev pub by_reply : Session → Entry → Reply → Answer
by_reply s r done = plain_success
by_reply s r last = failing s r Debuggee (reason_of last)

-- the same of what waits for the start
abbrev pub by_reply_each : Session → List Kept → Reply → Answer
by_reply_each s parked done = plain_success
by_reply_each s parked last = failing_each s parked (reason_of last)

abbrev pub start_phase : Reply → Phase
start_phase done = Running
start_phase _ = Configured

abbrev pub after_park : Session → Entry → Made
after_park s r = record { drafts = []; drops = false; after = record s { phase = Parked; kept = with_mark r.seq true s.kept } }

abbrev pub after_launch : Session → Entry → Reply → Made
after_launch s r last = record {
  drafts = reply r (by_reply s r last) ∷ [];
  drops = false;
  after = record s { phase = start_phase last; kept = without r.seq s.kept; used = s.used + 1 };
}

abbrev pub after_configuration_done : Session → Entry → Made
after_configuration_done s r = record { drafts = reply r plain_success ∷ []; drops = false; after = record s { phase = Configured; kept = without r.seq s.kept; used = s.used + 1 } }

abbrev pub answer_each : Answer → List Kept → List Draft
answer_each answer kept = map (λ k. reply k.entry answer) kept

-- what waits for the start is answered by the reply
abbrev pub answer_parked : Session → List Kept → Reply → List Draft
answer_parked s parked last = answer_each (by_reply_each s parked last) parked

-- the request is answered, then what waited for the debuggee to start
abbrev pub after_parked_launch : Session → Entry → Reply → Made
after_parked_launch s r last = record {
  drafts = reply r plain_success ∷ answer_parked s (starting_ones (without r.seq s.kept)) last;
  drops = false;
  after = record s { phase = start_phase last; kept = not_starting_ones (without r.seq s.kept); used = s.used + (1 + length (starting_ones (without r.seq s.kept))) };
}

-- ---- a terminal

-- Specification, "RunInTerminal Request"; "InitializeRequestArguments", whose `supportsRunInTerminalRequest` says that a client runs some. That a `launch` whose `console` is `terminal` asks for one is this profile's choice: what `launch` may name is each adapter's own.

-- the text at `console` is `terminal`
abbrev pub names_terminal : Option Data → Bool
names_terminal arguments = unwrap_or (option_map (bytes_eq (codes "terminal")) (option_and_then (text_at (codes "console")) arguments)) false

abbrev pub is_launch : Option Command → Bool
is_launch (Some command.Launch) = true
is_launch _ = false

-- `launch` wants a terminal, and the client runs some
abbrev pub wants_terminal : Options → Entry → Bool
wants_terminal options r = options.supports_run_in_terminal_request && (is_launch (command_of r) && names_terminal r.arguments)

-- one that is parked does
abbrev pub parked_wants_terminal : Options → List Kept → Bool
parked_wants_terminal options kept = list_any (λ k. k.parked && wants_terminal options k.entry) kept

-- the request is parked
abbrev pub after_asking : Session → Entry → Made
after_asking s r = record { drafts = ask ∷ []; drops = false; after = record s { phase = Asked; kept = with_mark r.seq true s.kept; asked = Some (s.used + 1); used = s.used + 1 } }

-- the request is answered, and what was parked stays so
abbrev pub after_asking_parked : Session → Entry → Made
after_asking_parked s r = record {
  drafts = reply r plain_success ∷ ask ∷ [];
  drops = false;
  after = record s { phase = Asked; kept = without r.seq s.kept; asked = Some (s.used + 2); used = s.used + 2 };
}

-- in place of a start
abbrev pub start_unless_asked : Bool → Effect
start_unless_asked asked = if asked then effect.Ask else effect.Start

abbrev pub start_parked_unless_asked : Bool → Effect
start_parked_unless_asked asked = if asked then effect.AskParked else effect.StartParked

-- what the table says, unless a terminal is asked for first
abbrev pub effect_of : Session → Entry → Effect → Effect
effect_of s r effect.Start = start_unless_asked (wants_terminal s.options r)
effect_of s r effect.StartParked = start_parked_unless_asked (parked_wants_terminal s.options s.kept)
effect_of s r e = e

-- ---- disconnect and terminate

-- every other request is cancelled, in order of arrival, then this one answered
abbrev pub after_disconnect : Session → Entry → Made
after_disconnect s r = record {
  drafts = answer_each (failure Cancelled) (without r.seq s.kept) ++ reply r plain_success ∷ [];
  drops = true;
  after = record s { phase = Ended; kept = []; references = without_references s.references; used = s.used + (length (without r.seq s.kept) + 1) };
}

abbrev pub after_terminate : Session → Entry → Made
after_terminate s r = record {
  drafts = reply r plain_success ∷ emit terminated ∷ [];
  drops = true;
  after = record s { phase = Exited; kept = without r.seq s.kept; references = without_references s.references; used = s.used + 2 };
}

-- ---- the six ways to go on

abbrev pub resume_body : How → Option Data
resume_body how.Continue = Some continue_body
resume_body _ = None

abbrev pub after_resume : How → Session → Entry → Reply → Made
after_resume h s r done = record {
  drafts = reply r (success (resume_body h) []) ∷ [];
  drops = true;
  after = record s { phase = Running; kept = without r.seq s.kept; references = without_references s.references; used = s.used + 1 };
}
after_resume h s r last = after_answering r (failing s r Debuggee (reason_of last)) s

-- ---- queries

-- nothing is given where it would be too large; where the debuggee refuses, this is why
abbrev pub after_query : Session → Entry → Option Explanation → QueryResult → Made
after_query s r why (Err f) = after_answering r (failing s r f why) s
after_query s r why (Ok t) =
    if fits s r t.body
    then record { drafts = reply r (success t.body t.names) ∷ []; drops = false; after = record s { kept = without r.seq s.kept; references = t.references; used = s.used + 1 } }
    else after_answering r (failure TooLarge) s

-- ---- what is changed

-- the body of the answer, what the debuggee is asked, and the breakpoints then
pub record Change : Type 0 where
  pub body : Option Data
  pub act : Act
  pub breakpoints : SetBreakpoints

abbrev pub ChangeResult : Type 0
ChangeResult = Result Change Failure

abbrev pub change_asked : Session → Entry → Change → Plan
change_asked s r c = asking c.act
    (λ last. record {
      drafts = reply r (success c.body []) ∷ [];
      drops = false;
      after = record s { kept = without r.seq s.kept; breakpoints = c.breakpoints; used = s.used + 1 };
    })

-- the answer is measured before anything changes
abbrev pub after_change : Session → Entry → Option Explanation → ChangeResult → Plan
after_change s r why (Err f) = at_once (after_answering r (failing s r f why) s)
after_change s r why (Ok c) = if fits s r c.body then change_asked s r c else at_once (after_answering r (failure TooLarge) s)

-- ---- lines that are set

-- lines as the debuggee counts them
abbrev pub lines_asked : Options → List ℕ → List ℕ
lines_asked options lines = if options.lines_start_at_1 then lines else map (λ n. n + 1) lines

-- a breakpoint as it is answered, at the line where it is, as the client counts
abbrev pub protocol_breakpoint : Options → ℕ → Placement → BreakpointBody
protocol_breakpoint options id p = record { id = id; line = line_shown options p.line; verified = p.verified; message = p.message; more = p.more }

-- an answer to each line, with ids from the first on
abbrev pub answers_to : Options → ℕ → List ℕ → List Placement → List BreakpointBody
answers_to options first lines placed = map (λ p. protocol_breakpoint options p.0 p.1) (zip (range_with_len first (length lines)) placed)

abbrev pub lines_change : Session → SourceKey → List ℕ → List Placement → Change
lines_change s key lines placed = record {
  body = Some (set_breakpoints_body (answers_to s.options s.breakpoints.next_id lines placed));
  act = to_set_breakpoints key (lines_asked s.options lines);
  breakpoints = breakpoints_with key (lines_asked s.options lines) s.breakpoints;
}

-- by what the debuggee tells of the lines
abbrev pub lines_result : Session → SourceKey → List ℕ → Option (List Placement) → ChangeResult
lines_result s key lines None = Err Debuggee
lines_result s key lines (Some placed) = if are_too_many s.limits key lines s.breakpoints then Err TooManyBreakpoints else Ok (lines_change s key lines placed)

-- ---- a value that is set

abbrev pub value_change : Session → SetVariable → ℕ → Assigned → Change
value_change s asked holder assigned = record {
  body = Some (set_variable_body assigned.value assigned.more);
  act = to_assign holder asked.name asked.value;
  breakpoints = s.breakpoints;
}

-- by what the debuggee tells of the variable
abbrev pub assigned_result : Session → SetVariable → ℕ → Option Assigned → ChangeResult
assigned_result s asked holder None = Err Debuggee
assigned_result s asked holder (Some assigned) = Ok (value_change s asked holder assigned)

-- by what its number names
abbrev pub value_result : Shown → Session → SetVariable → Option ℕ → ChangeResult
value_result view s asked None = Err Debuggee
value_result view s asked (Some holder) = assigned_result s asked holder (view.assigned holder asked.name asked.value)

-- what a call changes, or why it is not changed
abbrev pub change_result : Shown → Session → Call → ChangeResult
change_result view s (call.SetBreakpoints key lines) = lines_result s key lines (view.verify key (lines_asked s.options lines))
change_result view s (call.SetVariable asked) = value_result view s asked (object_of s.references asked.variables_reference)
change_result view s _ = Err Debuggee

-- ---- why the debuggee refuses

-- what a call queries, where the debuggee may refuse that, and what is named is there
abbrev pub query_asked : Session → Call → Option Query
query_asked s (call.StackTrace asked) = Some (for_frames asked.thread_id)
query_asked s (call.Scopes number) = option_map for_scopes (object_of s.references number)
query_asked s (call.Variables asked) = option_map for_children (object_of s.references asked.variables_reference)
query_asked s (call.Evaluate asked) = Some (for_value (option_and_then (object_of s.references) asked.frame_id) asked.expression)
query_asked s (call.Source number) = Some (for_content (number - 1))
query_asked s _ = None

-- the same of what is queried before a change
abbrev pub query_before : Session → Call → Option Query
query_before s (call.SetBreakpoints key lines) = Some (for_verified key (lines_asked s.options lines))
query_before s (call.SetVariable asked) = option_map (λ holder. for_assigned holder asked.name asked.value) (object_of s.references asked.variables_reference)
query_before s _ = None

-- what the debuggee says of it
abbrev pub query_reason : Shown → Session → Call → Option Explanation
query_reason view s asked = option_and_then view.why (query_asked s asked)

abbrev pub change_reason : Shown → Session → Call → Option Explanation
change_reason view s asked = option_and_then view.why (query_before s asked)

-- ---- the effects of the table

unfoldable pub plan_for : Effect → Shown → Session → Entry → Call → Plan
plan_for effect.Initialize view s r asked = at_once (after_initialize s r asked)
plan_for effect.Park view s r asked = at_once (after_park s r)
plan_for effect.Start view s r asked = asking to_start (after_launch s r)
plan_for effect.ConfigurationDone view s r asked = at_once (after_configuration_done s r)
plan_for effect.StartParked view s r asked = asking to_start (after_parked_launch s r)
plan_for effect.Ask view s r asked = at_once (after_asking s r)
plan_for effect.AskParked view s r asked = at_once (after_asking_parked s r)
plan_for effect.Disconnect view s r asked = at_once (after_disconnect s r)
plan_for effect.EndAndDisconnect view s r asked = asking to_end (λ last. after_disconnect s r)
plan_for effect.Terminate view s r asked = asking to_end (λ last. after_terminate s r)
plan_for effect.Change view s r asked = after_change s r (change_reason view s asked) (change_result view s asked)
plan_for (effect.Resume h) view s r asked = asking (to_resume h (thread_of asked)) (after_resume h s r)
plan_for effect.Pause view s r asked = asking to_pause (λ last. after_answering r (by_reply s r last) s)
plan_for effect.Query view s r asked = at_once (after_query s r (query_reason view s asked) (query_result view (query_of s) asked))

-- ---- a request, and a turn

abbrev pub plan_of_call : Shown → Session → Entry → Option Effect → Read Call → Plan
plan_of_call view s r (Some e) (Ok asked) = plan_for (effect_of s r e) view s r asked
plan_of_call view s r _ _ = at_once (no_change s)

abbrev pub plan_of_command : Shown → Session → Entry → Option Command → Plan
plan_of_command view s r None = at_once (no_change s)
plan_of_command view s r (Some c) = plan_of_call view s r (effect_in c s.phase) (call_in r c)

-- the first failure that holds, or what the table says
abbrev pub plan_unless : Option Failure → Shown → Session → Entry → Plan
plan_unless (Some f) view s r = at_once (after_answering r (failure f) s)
plan_unless None view s r = plan_of_command view s r (command_of r)

-- why a request is refused before anything is asked
abbrev pub refusal : Shown → Session → Entry → Option Failure
refusal view s r = refusal_in view s.phase s.references r

-- how a request is handled
abbrev pub plan : Shown → Session → Entry → Plan
plan view s r = plan_unless (refusal view s r) view s r

-- ---- a turn: None where no request waits to be handled

-- a command that is opened, and of stops alone or not, is lent; each other one is handled
abbrev pub plan_if_opened : Option Bool → Shown → Session → Entry → Plan
plan_if_opened None view s r = plan view s r
plan_if_opened (Some in_stops) view s r = plan_of_lending s r in_stops

abbrev pub plan_of_turn : Shown → Session → Entry → Plan
plan_of_turn view s r = plan_if_opened (opened_in s r) view s r

abbrev pub some_plan : Result Plan AdapterFault → Result (Option Plan) AdapterFault
some_plan (Ok p) = Ok (Some p)
some_plan (Err fault) = Err fault

abbrev pub turn_of : Shown → Session → Option Kept → Result (Option Plan) AdapterFault
turn_of view s None = Ok None
turn_of view s (Some k) = some_plan (plan_within_numbers s (plan_of_turn view s k.entry))

-- the oldest request that is not parked is handled, or lent
abbrev pub turns : Shown → Session → Result (Option Plan) AdapterFault
turns view s = turn_of view s (oldest s.kept)

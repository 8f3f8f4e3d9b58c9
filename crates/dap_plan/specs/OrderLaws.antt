-- The tests of a request, those before it is served and those after, stand in the one order of failures.
-- That order is this profile's choice. It is of a request that is handled in a turn: one whose command is opened is lent there, and a `cancel` is answered where it is taken.
use Rattle.std.specs.List.{AllByRecursion}
use Rattle.std.specs.Prelude.{◌≡◌, ◌+◌, ◌==◌, ◌&&◌, ℕ, nat_lt, nat_le, not, ⊤, Bool, true, false, List, [], ◌∷◌, length, Option, Some, None, is_none, option_map, option_and_then, find, Ok, Err, if◌then◌else◌}
use Rattle.dap_call.specs.Argument.{Read}
use Rattle.dap_body.specs.Failure.{failures_in_order}
use Rattle.dap_call.specs.declared.call.Call.{Call}
use Rattle.dap_call.specs.declared.call.Call.TheVariants as call
use Rattle.dap_command.specs.declared.command.Command.{Command}
use Rattle.dap_body.specs.declared.failure.Failure.{Failure}
use Rattle.dap_body.specs.declared.failure.Failure.TheVariants.{NotInitialized, AlreadyInitialized, UnknownCommand, Unsupported, BadArguments, WrongPhase, NotStopped, UnknownThread, StaleReference, UnknownSource, Debuggee, TooManyBreakpoints, TooManyReferences, ReferencesExhausted, TooLarge}
use Rattle.dap_command.specs.declared.key.Key.{Key}
use Rattle.dap_tables.specs.Outstanding.{Kept, parked_ones, with_mark, without}
use Rattle.dap_tables.specs.declared.entry.Entry.{Entry}
use Rattle.dap_tables.specs.declared.target.Target.{Target}
use Rattle.dap_debuggee.specs.declared.explanation.Explanation.{Explanation}
use Rattle.dap_debuggee.specs.Shown.{Shown, Act, to_start, to_resume, to_pause, to_set_breakpoints, to_assign, to_end, Reply, done, reason_of}
use Rattle.dap_decision.specs.declared.effect.Effect.{Effect}
use Rattle.dap_decision.specs.declared.effect.Effect.TheVariants as effect
use Rattle.dap_decision.specs.declared.phase.Phase.{Phase}
use Rattle.dap_decision.specs.declared.phase.Phase.TheVariants.{Fresh, Asked}
use Rattle.dap_query.specs.Bodies.{QueryResult, query_result}
use Rattle.dap_query.specs.Queries.{object_of}
use Rattle.dap_query.specs.References.{targets_named, with_targets}
use Rattle.dap_query.specs.Refused.{refuses_query, objects_named}
use Rattle.dap_plan.specs.Breakpoints.{are_too_many}
use Rattle.dap_decision.specs.Failures.{command_of, call_in, of_known, is_early, is_initialize, waits_for_stop, lacks_thread, thread_named, lacks_reference, reference_named, lacks_source, source_named}
use Rattle.dap_plan.specs.Handling.{refusal}
use Rattle.dap_plan.specs.Handling.{ChangeResult, change_result, plan, fits, lines_asked, failing, failing_each, query_reason, change_reason, after_park, effect_of}
use Rattle.dap_decision.specs.Failures.{thread_of}
use Rattle.dap_plan.specs.Plan.{Made, Plan, at_once, asking, after_answering}
use Rattle.dap_outbox.specs.Draft.{Answer, success, Draft, reply, emit, ask, ask_named, requests_in}
use Rattle.dap_outbox.specs.Waiting.{starting_ones}
use Rattle.dap_plan.specs.Session.{Session, query_of}
use Rattle.dap_outbox.specs.Draft.{own_request}
use Rattle.dap_decision.specs.Table.{effect_in, is_phase, is_served, is_never_served}
use Rattle.dap_plan.specs.Within.{IsWithin}

abbrev pub reads_badly : Read Call → Bool
reads_badly (Err key) = true
reads_badly (Ok asked) = false

-- of a call that is read
abbrev pub of_read : (Call → Bool) → Read Call → Bool
of_read test (Err key) = false
of_read test (Ok asked) = test asked

-- served where the debuggee is stopped, and there alone, and it runs
abbrev pub waits_to_be_served : Phase → Command → Bool
waits_to_be_served phase c = not (is_never_served c) && waits_for_stop phase c

-- The test of each failure before a request is served, of a command and what its arguments are read as. Those from `debuggee` on come after.
abbrev pub holds_before : Shown → Session → Option Command → (Command → Read Call) → Failure → Bool
holds_before view s c reads NotInitialized = is_phase Fresh s.phase && not (of_known is_early c)
holds_before view s c reads AlreadyInitialized = of_known is_initialize c && not (is_phase Fresh s.phase)
holds_before view s c reads UnknownCommand = is_none c
holds_before view s c reads Unsupported = of_known is_never_served c
holds_before view s c reads (BadArguments key) = of_known (λ known. reads_badly (reads known)) c
holds_before view s c reads WrongPhase = of_known (λ known. not (is_served known s.phase) && not (waits_to_be_served s.phase known)) c
holds_before view s c reads NotStopped = of_known (waits_to_be_served s.phase) c
holds_before view s c reads UnknownThread = of_known (λ known. of_read (λ asked. lacks_thread view (thread_named asked)) (reads known)) c
holds_before view s c reads StaleReference = of_known (λ known. of_read (λ asked. lacks_reference s.references (reference_named asked)) (reads known)) c
holds_before view s c reads UnknownSource = of_known (λ known. of_read (λ asked. lacks_source view (source_named asked)) (reads known)) c
holds_before view s c reads _ = false

-- the first bad key of its arguments, if there is one
abbrev pub IsBadKey : Entry → Key → Type 0
IsBadKey r key = (c : Command) (bad : Key) → command_of r ≡ Some c → call_in r c ≡ Err bad → bad ≡ key

-- a request is refused with the first failure of that order whose test holds, where `key` is the first bad one, if there is one
abbrev pub RefusalsComeInOrder : Type 0
RefusalsComeInOrder = (view : Shown) (s : Session) (r : Entry) (key : Key) → IsBadKey r key → refusal view s r ≡ find (holds_before view s (command_of r) (call_in r)) (failures_in_order key)

-- ---- once it is served

-- of the effect by which the table serves it, and of what is asked
abbrev pub of_effect : (Effect → Call → Bool) → Option Effect → Read Call → Bool
of_effect test (Some e) (Ok asked) = test e asked
of_effect test _ _ = false

abbrev pub of_served : (Effect → Call → Bool) → Session → Entry → Option Command → Bool
of_served test s r None = false
of_served test s r (Some c) = of_effect test (effect_in c s.phase) (call_in r c)

abbrev pub refuses : Shown → Session → Effect → Call → Bool
refuses view s effect.Query asked = refuses_query view (query_of s) asked
refuses view s effect.Change (call.SetBreakpoints key lines) = is_none (view.verify key (lines_asked s.options lines))
refuses view s effect.Change (call.SetVariable asked) = is_none (option_and_then (λ holder. view.assigned holder asked.name asked.value) (object_of s.references asked.variables_reference))
refuses view s _ asked = false

abbrev pub sets_too_many : Session → Effect → Call → Bool
sets_too_many s effect.Change (call.SetBreakpoints key lines) = are_too_many s.limits key lines s.breakpoints
sets_too_many s _ asked = false

-- so many references are live once each of them has a number
abbrev pub live_with : Session → List (Option Target) → ℕ
live_with s objects = length (with_targets (targets_named objects) s.references.live)

-- more than there is room for, and numbers do not end before that
abbrev pub is_past_room : Session → ℕ → Bool
is_past_room s n = nat_lt s.limits.references n && nat_le (s.references.base + s.limits.references) s.limits.reference

-- a number would be past the greatest
abbrev pub is_past_numbers : Session → ℕ → Bool
is_past_numbers s n = nat_lt s.limits.reference (s.references.base + n)

abbrev pub names_too_many : Shown → Session → Effect → Call → Bool
names_too_many view s effect.Query asked = is_past_room s (live_with s (objects_named view (query_of s) asked))
names_too_many view s _ asked = false

abbrev pub exhausts_numbers : Shown → Session → Effect → Call → Bool
exhausts_numbers view s effect.Query asked = is_past_numbers s (live_with s (objects_named view (query_of s) asked))
exhausts_numbers view s _ asked = false

-- the answer, where there is one, is longer than a body may be
abbrev pub is_long_answer : Session → Entry → QueryResult → Bool
is_long_answer s r (Ok t) = not (fits s r t.body)
is_long_answer s r (Err f) = false

abbrev pub is_long_change : Session → Entry → ChangeResult → Bool
is_long_change s r (Ok c) = not (fits s r c.body)
is_long_change s r (Err f) = false

abbrev pub is_too_large : Shown → Session → Entry → Effect → Call → Bool
is_too_large view s r effect.Query asked = is_long_answer s r (query_result view (query_of s) asked)
is_too_large view s r effect.Change asked = is_long_change s r (change_result view s asked)
is_too_large view s r _ asked = false

-- the test of each failure of a request that is handled, before it is served and after
abbrev pub holds : Shown → Session → Entry → Failure → Bool
holds view s r Debuggee = of_served (refuses view s) s r (command_of r)
holds view s r TooManyBreakpoints = of_served (sets_too_many s) s r (command_of r)
holds view s r TooManyReferences = of_served (names_too_many view s) s r (command_of r)
holds view s r ReferencesExhausted = of_served (exhausts_numbers view s) s r (command_of r)
holds view s r TooLarge = of_served (is_too_large view s r) s r (command_of r)
holds view s r f = holds_before view s (command_of r) (call_in r) f

-- what the debuggee says of why it refuses, by the effect and what is asked
abbrev pub reason_in : Shown → Session → Effect → Call → Option Explanation
reason_in view s effect.Query asked = query_reason view s asked
reason_in view s effect.Change asked = change_reason view s asked
reason_in view s _ asked = None

abbrev pub reason_of_effect : Shown → Session → Option Effect → Read Call → Option Explanation
reason_of_effect view s (Some e) (Ok asked) = reason_in view s e asked
reason_of_effect view s _ _ = None

abbrev pub reason_of_served : Shown → Session → Entry → Option Command → Option Explanation
reason_of_served view s r None = None
reason_of_served view s r (Some c) = reason_of_effect view s (effect_in c s.phase) (call_in r c)

-- how a request that fails so is answered: where the debuggee refuses, with the reason that it gives, if that fits
abbrev pub failure_answer : Shown → Session → Entry → Failure → Answer
failure_answer view s r f = failing s r f (reason_of_served view s r (command_of r))

-- ---- where no test holds

abbrev pub act_in : Plan → Option Act
act_in (at_once m) = None
act_in (asking act makes) = Some act

-- what the debuggee is asked to do
abbrev pub act_of : Effect → Session → Call → Option Act
act_of effect.Start s asked = Some to_start
act_of effect.StartParked s asked = Some to_start
act_of effect.EndAndDisconnect s asked = Some to_end
act_of effect.Terminate s asked = Some to_end
act_of (effect.Resume how) s asked = Some (to_resume how (thread_of asked))
act_of effect.Pause s asked = Some to_pause
act_of effect.Change s (call.SetBreakpoints key lines) = Some (to_set_breakpoints key (lines_asked s.options lines))
act_of effect.Change s (call.SetVariable asked) = option_map (λ holder. to_assign holder asked.name asked.value) (object_of s.references asked.variables_reference)
act_of _ s asked = None

-- what a plan comes to with this reply of the debuggee, where it is asked
abbrev pub comes_to : Plan → Reply → Made
comes_to (at_once m) last = m
comes_to (asking act makes) last = makes last

-- the first answer to the request of this number
abbrev pub answer_to : ℕ → List Draft → Option Answer
answer_to seq [] = None
answer_to seq (reply r answer ∷ ds) = if r.seq == seq then Some answer else answer_to seq ds
answer_to seq (emit event ∷ ds) = answer_to seq ds
answer_to seq (ask ∷ ds) = answer_to seq ds
answer_to seq (ask_named command arguments ∷ ds) = answer_to seq ds

abbrev pub IsSuccess : Option Answer → Type 0
IsSuccess (Some (success body names)) = ⊤
IsSuccess _ = ⊥

-- a success where the debuggee did what it was asked, else the failure `debuggee`, with the reason that it gives where that fits in the answer to each of those that wait for it
abbrev pub IsByReply : Session → List Kept → Reply → Option Answer → Type 0
IsByReply s parked done answer = IsSuccess answer
IsByReply s parked last answer = answer ≡ Some (failing_each s parked (reason_of last))

-- the same of a request that is answered alone: where the debuggee refuses, nothing else is done, and the reason is given where it fits there
abbrev pub IsDoneOrRefused : Session → Entry → Reply → Made → Type 0
IsDoneOrRefused s r done m = IsSuccess (answer_to r.seq m.drafts)
IsDoneOrRefused s r last m = m ≡ after_answering r (failing s r Debuggee (reason_of last)) s

-- each of those that wait for it is answered by the reply
abbrev pub AreAnswered : Session → List Kept → Reply → Made → Type 0
AreAnswered s parked last m = AllByRecursion (λ k. IsByReply s parked last (answer_to k.entry.seq m.drafts)) parked

-- just one request to the client is written, that for a terminal, and its answer is waited for
pub record AsksTerminal (s : Session) (m : Made) : Type 0 where
  pub seq : ℕ
  pub one : requests_in s.used m.drafts ≡ own_request seq ∷ []
  pub waits : m.after.asked ≡ Some seq
  pub phase : m.after.phase ≡ Asked

-- the request that is handled is parked, and not answered, and a terminal is asked for
pub record ParksAndAsks (s : Session) (r : Entry) (m : Made) : Type 0 where
  pub unanswered : answer_to r.seq m.drafts ≡ None
  pub parked : m.after.kept ≡ with_mark r.seq true s.kept
  pub asks : AsksTerminal s m

-- the request that is handled succeeds, none of those that are parked is answered, each stays parked, and a terminal is asked for
pub record AnswersAndAsks (s : Session) (r : Entry) (m : Made) : Type 0 where
  pub succeeds : IsSuccess (answer_to r.seq m.drafts)
  pub unanswered : AllByRecursion (λ k. answer_to k.entry.seq m.drafts ≡ None) (parked_ones (without r.seq s.kept))
  pub parked : parked_ones m.after.kept ≡ parked_ones (without r.seq s.kept)
  pub asks : AsksTerminal s m

-- A request that is parked is not answered yet: neither one that comes before `configurationDone`, nor one for which a terminal is asked. One that starts, resumes or pauses the debuggee is answered by its reply, and so are those that wait for that where the debuggee is started for them. Each other one succeeds.
abbrev pub IsAnswered : Effect → Session → Entry → Reply → Made → Type 0
IsAnswered effect.Park s r last m = m ≡ after_park s r
IsAnswered effect.Ask s r last m = ParksAndAsks s r m
IsAnswered effect.AskParked s r last m = AnswersAndAsks s r m
IsAnswered effect.Start s r last m = IsDoneOrRefused s r last m
IsAnswered (effect.Resume how) s r last m = IsDoneOrRefused s r last m
IsAnswered effect.Pause s r last m = IsDoneOrRefused s r last m
IsAnswered effect.StartParked s r last m = IsSuccess (answer_to r.seq m.drafts) × AreAnswered s (starting_ones (without r.seq s.kept)) last m
IsAnswered _ s r last m = IsSuccess (answer_to r.seq m.drafts)

-- the command is served by an effect of the table, unless a terminal is asked for first: the debuggee is asked what that effect asks, and this comes of it
pub record IsServed (view : Shown) (s : Session) (r : Entry) (last : Reply) : Type 0 where
  pub command : Command
  pub known : command_of r ≡ Some command
  pub asked : Call
  pub read : call_in r command ≡ Ok asked
  pub does : Effect
  pub is : effect_in command s.phase ≡ Some does
  pub asks : act_in (plan view s r) ≡ act_of (effect_of s r does) s asked
  pub answered : IsAnswered (effect_of s r does) s r last (comes_to (plan view s r) last)

-- of a session within its limits
pub record FailuresComeInOrder : Type 0 where
  -- a request that is handled is answered with the first failure of that order whose test holds, and nothing else is done
  pub fails : (view : Shown) (s : Session) (r : Entry) (key : Key) → IsBadKey r key → IsWithin s → (f : Failure) → find (holds view s r) (failures_in_order key) ≡ Some f → plan view s r ≡ at_once (after_answering r (failure_answer view s r f) s)
  -- where none holds it is served
  pub serves : (view : Shown) (s : Session) (r : Entry) (key : Key) → IsBadKey r key → IsWithin s → find (holds view s r) (failures_in_order key) ≡ None → (last : Reply) → IsServed view s r last

-- A recorded debuggee: what it is seen as, what it shows, and what each act does.
-- This profile's choice.
use Rattle.std.specs.Prelude.{◌≡◌, ℕ, zero, suc, ◌+◌, ◌-◌, ◌%◌, ◌^◌, ℤ, pos, Bool, true, false, ◌&&◌, ◌||◌, not, nat_le, nat_lt, nat_eq, slice_index, List, [], ◌∷◌, ◌++◌, length, map, take, drop, Option, Some, None, option_map, option_and_then, unwrap_or, if◌then◌else◌, Result, Ok, Err}
use Rattle.std.specs.List.{slice_get}
use Rattle.std.specs.Option.{IsSome}
use Rattle.dap_command.specs.declared.source_key.SourceKey.{SourceKey}
use Rattle.dap_debuggee.specs.Shown.{Shown, Act, to_start, to_resume, to_pause, to_poll, to_set_breakpoints, to_assign, to_end, Reply, done, refused, happened, without_reason, asked_of_act, Last}
use Rattle.dap_debuggee.specs.Laws.{variable_named, with_assigned}
use Rattle.dap_recording.specs.Recording.{id_at, beside_stop}
use Rattle.dap_recording.specs.Reading.{IsVerdict}
pub use Rattle.dap_recording.specs.Pieces.{piece_length, first_piece}
pub use Rattle.dap_recording.specs.Snapshot.{is_in, thread_shown}
use Rattle.dap_recording.specs.Snapshot.{if_in, frames_in}
pub use Rattle.dap_recording.specs.Sources.{source_shown, path_has_line, source_has_line, has_source_line}
use Rattle.dap_recording.specs.Sources.{text_at, lines_verified}
pub use Rattle.dap_recording.specs.Variables.{OfHolder, variables_at, with_variables, first_of, evaluation, assigned_of}
use Rattle.dap_recording.specs.declared.reading.RecordingFault.{RecordingFault}
use Rattle.dap_replay.specs.Moves.{move_of, is_forward, stop_at}
use Rattle.dap_debuggee.specs.declared.answers.State.{State}
use Rattle.dap_debuggee.specs.declared.answers.State.TheVariants.{NotStarted, Running, Stopped, Gone}
use Rattle.dap_debuggee.specs.declared.answers.How.{How}
use Rattle.dap_debuggee.specs.declared.answers.Category.TheVariants.{Stdout}
use Rattle.dap_debuggee.specs.declared.answers.Happening.{Happening}
use Rattle.dap_debuggee.specs.declared.answers.Happening.TheVariants as happening
use Rattle.dap_debuggee.specs.declared.answers.Frame.{Frame}
use Rattle.dap_debuggee.specs.declared.answers.Scope.{Scope}
use Rattle.dap_debuggee.specs.declared.answers.Variable.{Variable}
use Rattle.dap_debuggee.specs.declared.answers.Evaluation.{Evaluation}
use Rattle.dap_debuggee.specs.declared.answers.Assigned.{Assigned}
use Rattle.dap_recording.specs.declared.recording.RecordedThread.{RecordedThread}
use Rattle.dap_recording.specs.declared.recording.Moment.{Moment}
use Rattle.dap_recording.specs.declared.recording.Recording.{Recording}
use Rattle.dap_recording.specs.declared.recording.Span.{Span}
use Rattle.dap_replay.specs.declared.moves.Reason.TheVariants.{Entry}
use Rattle.dap_replay.specs.declared.moves.Move.{Move}
use Rattle.dap_tables.specs.SourceMap.{OfSource, set_of, of_others, with_set}

-- ---- the view

-- the rest of a run: what is still to be written, moment by moment, and how it ends
pub record Run : Type 0 where
  pub output : List (List ℕ)
  pub move : Move
  pub paused : Bool

pub record Played : Type 0 where
  pub recording : Recording
  pub state : State
  -- the moment that is shown
  pub at : ℕ
  pub run : Option Run
  -- the lines of each source that has some, in the order of the sources' names
  pub set : List (OfSource ℕ)
  -- all variables of each holder in which one was set since the debuggee went on, in the order of the holders' numbers
  pub changed : List OfHolder
  pub acts : ℕ
  pub last : Option Last

-- ---- lines

-- the lines of a source, none where none were set
abbrev pub lines_in : List (OfSource ℕ) → SourceKey → List ℕ
lines_in set key = set_of key set

-- ---- values that were set

-- a value that was set lies on top of the recording
abbrev pub variables_held : Played → ℕ → Option (List Variable)
variables_held v holder = first_of (variables_at holder v.changed) (slice_get v.recording.variables holder)

-- ---- output

-- what is written on a forward move from before moment `from` to moment `to`, or to the exit
abbrev pub output_of : List Moment → ℕ → ℕ → List (List ℕ)
output_of moments from to = map (λ m. m.output) (take (suc to - from) (drop from moments))

-- ---- acts

abbrev pub with_ask : Act → Reply → Played → Played
with_ask a r v = record v { acts = (v.acts + 1) % 2 ^ 64; last = Some (record { asked = asked_of_act a; reply = without_reason r }) }

abbrev pub run_from : ℕ → List (List ℕ) → Move → Played → Played
run_from at output move v = record v { state = Running; at = at; run = Some (record { output = output; move = move; paused = false }) }

abbrev pub at_rest : State → ℕ → Played → Played
at_rest state at v = record v { state = state; at = at; run = None }

abbrev pub with_run : Run → Played → Played
with_run run v = record v { run = Some run }

-- a pause is remembered by the run
abbrev pub with_pause : Option Run → Played → Played
with_pause run v = record v { run = option_map (λ (r : Run). record { output = r.output; move = r.move; paused = true }) run }

abbrev pub with_lines : List (OfSource ℕ) → Played → Played
with_lines set v = record v { set = set }

abbrev pub with_changed : List OfHolder → Played → Played
with_changed changed v = record v { changed = changed }

-- to the first moment
abbrev pub after_start : Played → Played
after_start v = run_from 0 (output_of v.recording.moments 0 0) (record { to = 0; held = false; forward = true; reason = Entry }) v

-- what a move writes: forward the output of each moment that it comes by, backward nothing
abbrev pub output_on_move : How → List Moment → ℕ → ℕ → List (List ℕ)
output_on_move how moments i to = if is_forward how then output_of moments (suc i) to else []

abbrev pub move_from : How → Played → Move
move_from how v = move_of v.recording.sources v.recording.moments (lines_in v.set) how v.at

-- no value stays set
abbrev pub after_resume : How → Played → Played
after_resume how v = run_from v.at (output_on_move how v.recording.moments v.at (move_from how v).to) (move_from how v) (with_changed [] v)

-- the first of the variables with a name has the text as its value; they stay where there is none
abbrev pub with_text : List ℕ → List ℕ → List Variable → List Variable
with_text name text xs = unwrap_or (option_map (λ a. with_assigned name a xs) (assigned_of name text None (Some xs))) xs

abbrev pub after_assign : ℕ → List ℕ → List ℕ → Played → Played
after_assign holder name text v = with_changed (with_variables holder (with_text name text (unwrap_or (variables_held v holder) [])) v.changed) v

-- a stop at the end of a move, with the thread that stands there, and what the moment says beside
abbrev pub stop_of : List Moment → Move → Happening
stop_of moments move = happening.Stopped (stop_at moments move).reason (unwrap_or (option_map id_at (slice_get moments move.to)) (pos 0)) (beside_stop (stop_at moments move))

-- the end of a run, once all is written: held, stopped or gone
abbrev pub end_of_run : Run → Played → Happening × Played
end_of_run run v =
    if run.move.held && not run.paused then (happening.Nothing, with_run (record { output = []; move = run.move; paused = run.paused }) v)
    else (if nat_lt run.move.to (length v.recording.moments)
    then (stop_of v.recording.moments run.move, at_rest Stopped run.move.to v)
    else (happening.Exited v.recording.exit, at_rest Gone v.at v))

-- a piece of output, while there is one
abbrev pub step_of_run : Run → Option (List ℕ × List (List ℕ)) → Played → Happening × Played
step_of_run run None v = end_of_run run v
step_of_run run (Some (piece, rest)) v = (happening.Output Stdout piece [], with_run (record { output = rest; move = run.move; paused = run.paused }) v)

abbrev pub poll_result : State → Option Run → Played → Happening × Played
poll_result Running (Some run) v = step_of_run run (first_piece run.output) v
poll_result _ _ v = (happening.Nothing, v)

-- the lines of one source replaced; where there are none, it has no entry
abbrev pub with_source_lines : SourceKey → List ℕ → List (OfSource ℕ) → List (OfSource ℕ)
with_source_lines key lines set = with_set key lines (of_others key set)

-- the answer to an act and the view after it, before the act is counted
abbrev pub start_in : State → Played → Reply × Played
start_in NotStarted v = (done, after_start v)
start_in _ v = (refused None, v)

abbrev pub resume_in : State → How → Played → Reply × Played
resume_in Stopped how v = (done, after_resume how v)
resume_in _ how v = (refused None, v)

abbrev pub pause_in : State → Option Run → Played → Reply × Played
pause_in Running run v = (done, with_pause run v)
pause_in _ _ v = (refused None, v)

abbrev pub poll_in : Happening × Played → Reply × Played
poll_in (h, v) = (happened h, v)

abbrev pub act_on : Act → Played → Reply × Played
act_on to_start v = start_in v.state v
act_on (to_resume how thread) v = resume_in v.state how v
act_on to_pause v = pause_in v.state v.run v
act_on to_poll v = poll_in (poll_result v.state v.run v)
act_on (to_set_breakpoints source lines) v = (done, with_lines (with_source_lines source lines v.set) v)
act_on (to_assign holder name text) v = (done, after_assign holder name text v)
act_on to_end v = (done, at_rest Gone v.at v)

-- ---- queries

abbrev pub is_there : State → Bool
is_there NotStarted = false
is_there Running = true
is_there Stopped = true
is_there Gone = false

-- the moment that is shown; none before the start and once gone
abbrev pub moment_shown : Played → Option Moment
moment_shown v = if is_there v.state then slice_get v.recording.moments v.at else None

abbrev pub threads_at : Played → List RecordedThread
threads_at v = unwrap_or (option_map (λ m. m.threads) (moment_shown v)) []

-- what was found by a number, where it is one of the moment's
abbrev pub if_within : {A : Type 0} → (Moment → Span) → Option Moment → ℕ → Option A → Option A
if_within span None n found = None
if_within span (Some m) n found = if_in (span m) n found

abbrev pub scopes_shown : Played → ℕ → Option (List Scope)
scopes_shown v frame = if_within (λ m. m.frames) (moment_shown v) frame (slice_get v.recording.scopes frame)

abbrev pub children_shown : Played → ℕ → Option (List Variable)
children_shown v holder = if_within (λ m. m.holders) (moment_shown v) holder (variables_held v holder)

abbrev pub frames_of : Played → ℤ → Option (List Frame)
frames_of v id = frames_in (threads_at v) id

-- the first variable of a name, in the first scope that has one, where `held` tells the variables of a holder
abbrev pub value_in : (ℕ → Option (List Variable)) → List ℕ → List Scope → Option Variable
value_in held name [] = None
value_in held name (scope ∷ scopes) = first_of (variable_named name (unwrap_or (held scope.holder) [])) (value_in held name scopes)

abbrev pub evaluation_in : Played → Option ℕ → List ℕ → Option Evaluation
evaluation_in v None name = None
evaluation_in v (Some frame) name = option_map evaluation (option_and_then (value_in (variables_held v) name) (scopes_shown v frame))

abbrev pub assigned_in : Played → ℕ → List ℕ → List ℕ → Option Assigned
assigned_in v holder name text = assigned_of name text None (children_shown v holder)

abbrev pub shown_of : Played → Shown
shown_of v = record {
  state = v.state;
  lines = lines_in v.set;
  acts = v.acts;
  last = v.last;
  threads = map thread_shown (threads_at v);
  frames = frames_of v;
  scopes = scopes_shown v;
  children = children_shown v;
  evaluate = evaluation_in v;
  assigned = assigned_in v;
  sources = map source_shown v.recording.sources;
  content = text_at v.recording.sources;
  verify = λ source lines. Some (lines_verified v.recording.sources source lines);
  why = λ query. None;
}

-- ---- the views that an act may leave

-- only a variable that is there is set
abbrev pub IsAllowed : Played → Act → Type 0
IsAllowed v (to_assign holder name text) = IsSome (assigned_in v holder name text)
IsAllowed v _ = Unit {0}

-- the view that an act with an answer leaves
pub record FollowsPlayed (v : Played) (a : Act) (r : Reply) (w : Played) : Type 0 where
  pub allowed : IsAllowed v a
  pub reply : r ≡ (act_on a v).0
  pub view : w ≡ with_ask a r (act_on a v).1

-- ---- as it begins

-- a recording that is not started
abbrev pub fresh_played : Recording → Played
fresh_played r = record {
  recording = r;
  state = NotStarted;
  at = 0;
  run = None;
  set = [];
  changed = [];
  acts = 0;
  last = None;
}

-- What was read is the verdict, not started, unless memory ran out.
abbrev pub Reads : Result Played RecordingFault → Result Recording RecordingFault → Type 0
Reads (Ok played) verdict = (verdict ≡ Ok played.recording) × (played ≡ fresh_played played.recording)
Reads (Err fault) verdict = IsVerdict (Err fault) verdict

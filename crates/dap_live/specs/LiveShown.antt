-- What a debuggee that a host feeds is seen as, and what it shows: what the host told last. Of its mail nothing is shown but where breakpoints are.
-- This profile's choice.
use Rattle.std.specs.Prelude.{ℕ, ℤ, ◌≤◌, Bool, ◌&&◌, List, [], ◌∷◌, length, map, Option, Some, None, option_map, option_and_then, unwrap_or, bytes_eq, if◌then◌else◌}
use Rattle.dap_debuggee.specs.Shown.{Shown, Last, Query, for_assigned, for_value}
use Rattle.dap_debuggee.specs.Laws.{variable_named}
use Rattle.dap_debuggee.specs.declared.answers.State.{State}
use Rattle.dap_debuggee.specs.declared.answers.State.TheVariants.{NotStarted, Running, Stopped, Gone}
use Rattle.dap_debuggee.specs.declared.answers.Thread.{Thread}
use Rattle.dap_debuggee.specs.declared.answers.Frame.{Frame}
use Rattle.dap_debuggee.specs.declared.answers.Scope.{Scope}
use Rattle.dap_debuggee.specs.declared.answers.Variable.{Variable}
use Rattle.dap_debuggee.specs.declared.answers.Evaluation.{Evaluation}
use Rattle.dap_debuggee.specs.declared.answers.Assigned.{Assigned}
use Rattle.dap_debuggee.specs.declared.explanation.Explanation.{Explanation}
use Rattle.dap_recording.specs.Snapshot.{thread_shown, frames_in as frames_of, scopes_alone, children_alone, is_among}
use Rattle.dap_recording.specs.Sources.{source_shown, text_at}
use Rattle.dap_recording.specs.Variables.{variables_at, first_of, evaluation, assigned_of}
use Rattle.dap_recording.specs.declared.recording.RecordedSource.{RecordedSource}
use Rattle.dap_tables.specs.SourceMap.{OfSource, set_of}
use Rattle.dap_live.specs.declared.held.Learned.{Learned}
use Rattle.dap_live.specs.declared.here.Here.{Here}
use Rattle.dap_live.specs.MailState.{MailState, no_mail}
use Rattle.dap_live.specs.Placing.{placements_in}

-- ---- the view

pub record LiveState : Type 0 where
  pub sources : List RecordedSource
  -- what is shown of the last stop: a moment, whether more is told later, and what was told or set since
  pub here : Option Here
  -- what the host told last of a text, until the next poll
  pub learned : Option Learned
  pub state : State
  -- the lines of each source that has some, in the order of the sources' names
  pub set : List (OfSource ℕ)
  pub acts : ℕ
  pub last : Option Last
  pub mail : MailState

abbrev pub with_mail : MailState → LiveState → LiveState
with_mail mail v = record v { mail = mail }

-- what is shown was read over no more sources than there are
abbrev pub IsFew : List RecordedSource → Option Here → Type 0
IsFew sources None = Unit {0}
IsFew sources (Some here) = here.moment.sources ≤ length sources

abbrev pub fresh_live : List RecordedSource → LiveState
fresh_live sources = record {
  sources = sources;
  here = None;
  learned = None;
  state = NotStarted;
  set = [];
  acts = 0;
  last = None;
  mail = no_mail;
}

-- ---- queries

-- nothing before the start and once gone; what was shown at the last stop while it runs
abbrev pub now_shown : State → Option Here → Option Here
now_shown NotStarted here = None
now_shown Running here = here
now_shown Stopped here = here
now_shown Gone here = None

abbrev pub threads_in : Option Here → List Thread
threads_in None = []
threads_in (Some here) = map thread_shown here.moment.moment.threads

abbrev pub frames_in : Option Here → ℤ → Option (List Frame)
frames_in None thread = None
frames_in (Some here) thread = frames_of here.moment.moment.threads thread

abbrev pub scopes_in : Option Here → ℕ → Option (List Scope)
scopes_in None frame = None
scopes_in (Some here) frame = scopes_alone here.moment frame

-- where more is told later, a scope that came without its variables is still to be told
abbrev pub is_to_come : Here → ℕ → Bool
is_to_come here holder = here.later && is_among holder here.moment.untold

-- what was told or set comes before what the moment has
abbrev pub children_in : Option Here → ℕ → Option (List Variable)
children_in None holder = None
children_in (Some here) holder = first_of (variables_at holder here.told) (if is_to_come here holder then None else children_alone here.moment holder)

-- the first variable of a name, in the first scope that has one; none where a scope before that is still to be told
abbrev pub variable_in : (ℕ → Option (List Variable)) → List ℕ → List Scope → Option Variable
variable_in children name [] = None
variable_in children name (scope ∷ scopes) = option_and_then (λ variables. first_of (variable_named name variables) (variable_in children name scopes)) (children scope.holder)

abbrev pub evaluation_in : Option Here → Option ℕ → List ℕ → Option Evaluation
evaluation_in None frame text = None
evaluation_in (Some here) None text = None
evaluation_in (Some here) (Some frame) text = option_map evaluation (option_and_then (variable_in (children_in (Some here)) text) (scopes_alone here.moment frame))

-- what the host told, where it is of this text
abbrev pub told_of : Option Learned → List ℕ → Option Learned
told_of None text = None
told_of (Some l) text = if bytes_eq text l.text then Some l else None

-- what the host told comes before what is shown, also that there is no value
abbrev pub evaluated : Option Learned → Option Evaluation → Option Evaluation
evaluated None shown = shown
evaluated (Some l) shown = option_map (λ value. record { value = value; holder = l.holder; more = unwrap_or l.more [] }) l.value

-- a variable that is shown gets what the host told of the text, where that has a value
abbrev pub assigned_by : Option Learned → List ℕ → Option (List Variable) → Option Assigned
assigned_by None name variables = None
assigned_by (Some l) name variables = option_and_then (λ value. assigned_of name value l.more variables) l.value

-- why a text has no value, in any frame and for any variable: what the host told of just that text
abbrev pub why_in : Option Learned → Query → Option Explanation
why_in learned (for_value frame text) = option_and_then (λ l. l.why) (told_of learned text)
why_in learned (for_assigned holder name text) = option_and_then (λ l. l.why) (told_of learned text)
why_in learned _ = None

abbrev pub shown_live : LiveState → Shown
shown_live v = record {
  state = v.state;
  lines = λ key. set_of key v.set;
  acts = v.acts;
  last = v.last;
  threads = threads_in (now_shown v.state v.here);
  frames = frames_in (now_shown v.state v.here);
  scopes = scopes_in (now_shown v.state v.here);
  children = children_in (now_shown v.state v.here);
  evaluate = λ frame text. evaluated (told_of v.learned text) (evaluation_in (now_shown v.state v.here) frame text);
  assigned = λ holder name text. assigned_by (told_of v.learned text) name (children_in (now_shown v.state v.here) holder);
  sources = map source_shown v.sources;
  content = text_at v.sources;
  verify = λ source lines. Some (placements_in v.mail.ahead.placed v.sources source lines);
  why = why_in v.learned;
}

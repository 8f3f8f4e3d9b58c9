-- What the debugger is seen as, and what it shows: nothing but its thread while the program runs, and the calls of a stop with their variables.
-- This example's choice.
use Rattle.std.specs.Prelude.{ℕ, ◌+◌, ℤ, pos, Bool, false, ◌&&◌, nat_le, nat_lt, nat_eq, min, decimal, codes, List, [], ◌∷◌, length, map, Option, Some, None, option_map, option_and_then, bytes_eq, if◌then◌else◌}
use Rattle.std.specs.List.{slice_get, find}
use Rattle.std.specs.Ordering.{int_eq}
use Rattle.dap_command.specs.SameSource.{is_source}
use Rattle.dap_command.specs.declared.source_key.SourceKey.{SourceKey}
use Rattle.dap_command.specs.declared.source_key.SourceKey.TheVariants.{Path}
use Rattle.serde_json.specs.Data.{string}
use Rattle.dap_json.specs.declared.more.Member.{Member}
use Rattle.dap_debuggee.specs.Shown.{Shown, Last, Query, for_value, as_asked}
use Rattle.dap_debuggee.specs.declared.answers.State.{State}
use Rattle.dap_debuggee.specs.declared.answers.State.TheVariants.{NotStarted, Running, Stopped, Gone}
use Rattle.dap_debuggee.specs.declared.answers.Thread.{Thread}
use Rattle.dap_debuggee.specs.declared.answers.Frame.{Frame}
use Rattle.dap_debuggee.specs.declared.answers.Scope.{Scope}
use Rattle.dap_debuggee.specs.declared.answers.Variable.{Variable}
use Rattle.dap_debuggee.specs.declared.answers.Evaluation.{Evaluation}
use Rattle.dap_debuggee.specs.declared.answers.Source.{Source}
use Rattle.dap_debuggee.specs.declared.explanation.Explanation.{Explanation}
use Rattle.dap_tables.specs.SourceMap.{OfSource, set_of}
use Rattle.my_debugger.specs.declared.call.Call.{Call}
use Rattle.my_debugger.specs.declared.call.Local.{Local}
use Rattle.my_debugger.specs.declared.program.TheConstants.{NAME, NO_VARIABLE, PATH, TEXT}
use Rattle.dap_debuggee.specs.declared.answers.Placement.{Placement}

-- ---- the view

pub record ToyState : Type 0 where
  pub state : State
  -- the calls that have not returned, the newest first
  pub stack : List Call
  -- the lines of each source that has some, in the order of the sources' names
  pub set : List (OfSource ℕ)
  pub acts : ℕ
  pub last : Option Last

abbrev pub fresh_toy : ToyState
fresh_toy = record {
  state = NotStarted;
  stack = [];
  set = [];
  acts = 0;
  last = None;
}

-- ---- calls, as frames and variables

-- lines are counted from 1, and the protocol's last one is 2147483647
abbrev pub line_of : Call → ℕ
line_of call = min call.at 2147483646 + 1

abbrev pub frame_of : ℕ → Call → Frame
frame_of number call = record { object = number; name = call.name; source = Some 0; line = line_of call; more = [] }

-- numbered from a number on
abbrev pub frames_from : ℕ → List Call → List Frame
frames_from number [] = []
frames_from number (call ∷ calls) = frame_of number call ∷ frames_from (number + 1) calls

-- a frame has one scope, with its own number
abbrev pub scope_of : ℕ → Scope
scope_of frame = record { name = codes "Locals"; holder = frame; more = [] }

abbrev pub of_its_type : List Member
of_its_type = record { key = codes "type"; value = string (codes "number") } ∷ []

abbrev pub variable_of : Local → Variable
variable_of local = record { name = local.name; value = decimal local.value; holder = None; more = of_its_type }

-- ---- queries

abbrev pub main_thread : Thread
main_thread = record { id = pos 1; name = codes "main"; more = [] }

abbrev pub threads_in : State → List Thread
threads_in NotStarted = []
threads_in Running = main_thread ∷ []
threads_in Stopped = main_thread ∷ []
threads_in Gone = []

-- the calls that are shown
abbrev pub calls_in : State → List Call → Option (List Call)
calls_in NotStarted stack = None
calls_in Running stack = None
calls_in Stopped stack = Some stack
calls_in Gone stack = None

abbrev pub frames_in : Option (List Call) → ℤ → Option (List Frame)
frames_in calls thread = if int_eq thread (pos 1) then option_map (λ stack. frames_from 0 stack) calls else None

abbrev pub scopes_in : Option (List Call) → ℕ → Option (List Scope)
scopes_in None frame = None
scopes_in (Some stack) frame = if nat_lt frame (length stack) then Some (scope_of frame ∷ []) else None

-- of a call, by its place
abbrev pub locals_in : Option (List Call) → ℕ → Option (List Local)
locals_in None holder = None
locals_in (Some stack) holder = option_map (λ call. call.locals) (slice_get stack holder)

abbrev pub children_in : Option (List Call) → ℕ → Option (List Variable)
children_in calls holder = option_map (λ locals. map variable_of locals) (locals_in calls holder)

abbrev pub local_named : List ℕ → List Local → Option Local
local_named name locals = find (λ local. bytes_eq name local.name) locals

-- the value of a variable, by its name, in a frame
abbrev pub evaluation_in : Option (List Call) → Option ℕ → List ℕ → Option Evaluation
evaluation_in calls None text = None
evaluation_in calls (Some frame) text = option_map (λ local. record { value = decimal local.value; holder = None; more = of_its_type }) (option_and_then (λ locals. local_named text locals) (locals_in calls frame))

-- why a text has no value
abbrev pub why_refused : Query → Option Explanation
why_refused (for_value frame text) = Some (record { text = NO_VARIABLE.now; show_user = false })
why_refused _ = None

abbrev pub the_source : Source
the_source = record { name = NAME.now; path = Some PATH.now; on_disk = false; more = [] }

-- a breakpoint can stand on each of the twelve lines, under the path of the source
abbrev pub has_line : SourceKey → ℕ → Bool
has_line source line = is_source source (Path PATH.now) && (nat_le 1 line && nat_le line 12)

-- a breakpoint is where it was asked for
abbrev pub placed_in : SourceKey → ℕ → Placement
placed_in source line = as_asked (has_line source line) line

abbrev pub shown_toy : ToyState → Shown
shown_toy v = record {
  state = v.state;
  lines = λ key. set_of key v.set;
  acts = v.acts;
  last = v.last;
  threads = threads_in v.state;
  frames = frames_in (calls_in v.state v.stack);
  scopes = scopes_in (calls_in v.state v.stack);
  children = children_in (calls_in v.state v.stack);
  evaluate = evaluation_in (calls_in v.state v.stack);
  assigned = λ holder name text. None;
  sources = the_source ∷ [];
  content = λ index. if nat_eq index 0 then Some TEXT.now else None;
  verify = λ source lines. Some (map (placed_in source) lines);
  why = why_refused;
}

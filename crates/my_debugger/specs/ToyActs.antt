-- What an act does to the debugger, and what comes of running.
use Rattle.std.specs.Prelude.{◌≡◌, ℕ, ◌+◌, ◌%◌, ◌^◌, pos, Bool, true, false, decimal, codes, List, [], ◌∷◌, ◌++◌, Some, None, IsTrue}
use Rattle.dap_debuggee.specs.Shown.{Act, to_set_breakpoints, to_assign, Reply, done, refused, happened, without_reason, asked_of_act, Last}
use Rattle.dap_debuggee.specs.Laws.{may_answer, state_after, keeps_frames}
use Rattle.dap_debuggee.specs.declared.answers.Asked.TheVariants.{Poll}
use Rattle.dap_debuggee.specs.declared.answers.Category.TheVariants.{Stdout}
use Rattle.dap_debuggee.specs.declared.answers.Happening.{Happening}
use Rattle.dap_debuggee.specs.declared.answers.Happening.TheVariants as happening
use Rattle.dap_debuggee.specs.declared.answers.State.{State}
use Rattle.dap_debuggee.specs.declared.answers.State.TheVariants.{Running, Stopped, Gone}
use Rattle.dap_tables.specs.SourceMap.{OfSource, of_others, with_set}
use Rattle.my_debugger.specs.declared.news.News.{News}
use Rattle.my_debugger.specs.declared.news.News.TheVariants as news
use Rattle.my_debugger.specs.declared.news.LastAct.{LastAct}
use Rattle.my_debugger.specs.declared.news.LastAct.TheVariants.{Done, Refused, Polled}
use Rattle.my_debugger.specs.declared.news.Reason.{Reason}
use Rattle.my_debugger.specs.declared.news.Reason.TheVariants.{Breakpoint, Step, Pause}
use Rattle.my_debugger.specs.ToyShown.{ToyState, calls_in}

-- ---- what comes of running

abbrev pub reason_text : Reason → List ℕ
reason_text Breakpoint = codes "breakpoint"
reason_text Step = codes "step"
reason_text Pause = codes "pause"

-- a value is printed as a line of its own
abbrev pub happening_of : News → Happening
happening_of news.Nothing = happening.Nothing
happening_of (news.Printed value) = happening.Output Stdout (decimal value ++ 10 ∷ []) []
happening_of (news.Stopped reason) = happening.Stopped (reason_text reason) (pos 1) []
happening_of news.Finished = happening.Exited (pos 0)
happening_of news.TooDeep = happening.Exited (pos 1)

-- where what ran is then
abbrev pub state_by : News → State
state_by news.Nothing = Running
state_by (news.Printed value) = Running
state_by (news.Stopped reason) = Stopped
state_by news.Finished = Gone
state_by news.TooDeep = Gone

-- nothing but the calls and the state has changed
pub record HasRun (v : ToyState) (n : News) (w : ToyState) : Type 0 where
  pub state : w.state ≡ state_by n
  pub set : w.set ≡ v.set
  pub acts : w.acts ≡ v.acts
  pub last : w.last ≡ v.last

-- ---- what an act leaves

abbrev pub last_of : LastAct → Last
last_of (Done asked) = record { asked = asked; reply = done }
last_of (Refused asked) = record { asked = asked; reply = refused None }
last_of (Polled n) = record { asked = Poll; reply = happened (happening_of n) }

-- an act counted and remembered
abbrev pub noted : Last → ToyState → ToyState
noted last v = record v { acts = (v.acts + 1) % 2 ^ 64; last = Some last }

abbrev pub set_after : Act → List (OfSource ℕ) → List (OfSource ℕ)
set_after (to_set_breakpoints source lines) set = with_set source lines (of_others source set)
set_after _ set = set

-- it has no variable that could be set
abbrev pub is_possible : Act → Bool
is_possible (to_assign holder name text) = false
is_possible _ = true

-- it is where it was, and shows what it showed
pub record ShowsTheSame (v w : ToyState) : Type 0 where
  pub state : w.state ≡ v.state
  pub calls : calls_in w.state w.stack ≡ calls_in v.state v.stack

-- The views that an act with an answer may leave: just what the laws of a debuggee ask of a step. How far the program runs is free.
pub record FollowsToy (v : ToyState) (a : Act) (r : Reply) (w : ToyState) : Type 0 where
  pub may : IsTrue (may_answer v.state a r)
  pub possible : IsTrue (is_possible a)
  pub state : w.state ≡ state_after v.state a r
  pub acts : w.acts ≡ (v.acts + 1) % 2 ^ 64
  pub last : w.last ≡ Some (record { asked = asked_of_act a; reply = without_reason r })
  pub set : w.set ≡ set_after a v.set
  pub stays : IsTrue (keeps_frames a r) → ShowsTheSame v w

-- The laws that every debuggee keeps, over what it shows in a view and over the views that an act may leave.
-- The states, what each act does to them, and that a value that is set changes one variable alone, are this profile's choice; what a stop, an exit and output are, and that the frames and variables of a stop last until the debuggee goes on, is told by the Overview, "Lifetime of Objects References", and the Specification, "StoppedEvent", "ContinuedEvent", "ExitedEvent", "OutputEvent".
use Rattle.std.specs.Prelude.{◌≡◌, ℕ, ◌+◌, ◌%◌, ◌^◌, ◌≤◌, ℤ, pos, negsuc, int_le, Bool, true, false, ◌&&◌, nat_le, nat_lt, nat_eq, bytes_eq, List, [], ◌∷◌, length, Option, Some, None, IsTrue, if◌then◌else◌, option_map, option_and_then, Result, Ok, Err}
use Rattle.std.specs.List.{list_all, slice_get, find}
use Rattle.std.specs.Option.{IsSome}
use Rattle.dap_json.specs.Names.{is_name}
use Rattle.dap_command.specs.SameSource.{is_source}
use Rattle.dap_command.specs.Numbers.{is_int}
use Rattle.dap_command.specs.declared.source_key.SourceKey.{SourceKey}
use Rattle.dap_debuggee.specs.Shown.{Shown, Act, Reply, asked_of_act, without_reason, category_name}
use Rattle.dap_debuggee.specs.Shown.{to_start, to_resume, to_pause, to_poll, to_set_breakpoints, to_assign, to_end, done, refused, happened}
use Rattle.dap_debuggee.specs.declared.answers.State.{State}
use Rattle.dap_debuggee.specs.declared.answers.State.TheVariants.{NotStarted, Running, Stopped, Gone}
use Rattle.dap_debuggee.specs.declared.answers.Happening.{Happening}
use Rattle.dap_debuggee.specs.declared.answers.Happening.TheVariants as happening
use Rattle.dap_debuggee.specs.declared.answers.DebuggeeFault.{DebuggeeFault}
use Rattle.dap_debuggee.specs.declared.answers.DebuggeeFault.TheVariants.{Refused, OutOfMemory}
use Rattle.dap_debuggee.specs.declared.explanation.ActFault.{ActFault}
use Rattle.dap_debuggee.specs.declared.explanation.ActFault.TheVariants as act
use Rattle.dap_debuggee.specs.declared.answers.Frame.{Frame}
use Rattle.dap_debuggee.specs.declared.answers.Variable.{Variable}
use Rattle.dap_debuggee.specs.declared.answers.Assigned.{Assigned}
use Rattle.dap_debuggee.specs.declared.answers.Placement.{Placement}

-- ---- what a call returned, want of memory aside

-- an act was done or refused, and this holds of its reply
abbrev pub Replies : Result (Unit {0}) ActFault → (Reply → Type 0) → Type 0
Replies (Ok x) After = After done
Replies (Err (act.Refused why)) After = After (refused why)
Replies (Err act.OutOfMemory) After = Unit {0}

-- a query was answered or refused
abbrev pub AnswersQuery : {A B : Type 0} → Result A DebuggeeFault → (A → B) → Option B → Type 0
AnswersQuery (Ok x) of answer = answer ≡ Some (of x)
AnswersQuery (Err Refused) of answer = answer ≡ None
AnswersQuery (Err OutOfMemory) of answer = Unit {0}

-- ---- states

-- what a poll may give in a state
abbrev pub may_happen : State → Happening → Bool
may_happen state happening.Nothing = true
may_happen Running (happening.Output category text more) = true
may_happen Running (happening.Stopped reason thread more) = true
may_happen Running (happening.Exited code) = true
may_happen Stopped (happening.Output category text more) = true
may_happen Stopped (happening.Continued thread) = true
may_happen Stopped (happening.Exited code) = true
may_happen _ _ = false

-- what may be answered to an act in a state: only what is not started is started, and only what stopped goes on
abbrev pub may_answer : State → Act → Reply → Bool
may_answer NotStarted to_start done = true
may_answer state to_start (refused why) = true
may_answer Stopped (to_resume how thread) done = true
may_answer state (to_resume how thread) (refused why) = true
may_answer state to_pause done = true
may_answer state to_pause (refused why) = true
may_answer state to_poll (happened h) = may_happen state h
may_answer state (to_set_breakpoints source lines) done = true
may_answer state (to_assign holder name text) done = true
may_answer state to_end done = true
may_answer _ _ _ = false

abbrev pub state_after : State → Act → Reply → State
state_after state to_start done = Running
state_after state (to_resume how thread) done = Running
state_after state to_poll (happened (happening.Stopped reason thread more)) = Stopped
state_after state to_poll (happened (happening.Continued thread)) = Running
state_after state to_poll (happened (happening.Exited code)) = Gone
state_after state to_end done = Gone
state_after state _ _ = state

-- ---- a stop that lasts

-- what happened without being asked for ends a stop: the debuggee went on, or ended
abbrev pub ends_a_stop : State → Reply → Bool
ends_a_stop Stopped (happened (happening.Continued thread)) = true
ends_a_stop Stopped (happened (happening.Exited code)) = true
ends_a_stop _ _ = false

-- Of a debuggee that goes on so: a stop lasts until it is asked to go on or to end. It is no law of every debuggee: a signal,
-- or another one that debugs it, may let it go on.
abbrev pub StopsLast : {D : Type 0} → (D → Shown) → (D → Act → Reply → D → Type 0) → Type 0
StopsLast {D} shown follows = (old new : D) (act : Act) (reply : Reply) → follows old act reply new → ends_a_stop (shown old).state reply ≡ false

-- ---- lines

-- the lines that are set for a source after an act
abbrev pub lines_after : Act → (SourceKey → List ℕ) → SourceKey → List ℕ
lines_after (to_set_breakpoints source lines) before key = if is_source source key then lines else before key
lines_after _ before key = before key

-- ---- what stays

-- nothing but the count of acts and the last one changes, save the lines
abbrev pub keeps_answers : Act → Reply → Bool
keeps_answers to_start (refused why) = true
keeps_answers (to_resume how thread) (refused why) = true
keeps_answers to_pause reply = true
keeps_answers (to_set_breakpoints source lines) reply = true
keeps_answers _ _ = false

-- no frame, scope or variable that was given changes
abbrev pub keeps_frames : Act → Reply → Bool
keeps_frames to_poll (happened happening.Nothing) = true
keeps_frames to_poll (happened (happening.Output category text more)) = true
keeps_frames a reply = keeps_answers a reply

-- an answer that was given stays; one that was refused may be given later
abbrev pub Stays : {A : Type 0} → Option A → Option A → Type 0
Stays {A} before after = (x : A) → before ≡ Some x → after ≡ Some x

-- frames, scopes and variables that were given stay
pub record FramesStay (v w : Shown) : Type 0 where
  pub frames : (thread : ℤ) → Stays (v.frames thread) (w.frames thread)
  pub scopes : (frame : ℕ) → Stays (v.scopes frame) (w.scopes frame)
  pub children : (holder : ℕ) → Stays (v.children holder) (w.children holder)

-- sources stay, each at its place, with the texts that were given; more may come behind them
pub record SourcesStay (v w : Shown) : Type 0 where
  pub sources : (index : ℕ) → Stays (slice_get v.sources index) (slice_get w.sources index)
  pub content : (index : ℕ) → Stays (v.content index) (w.content index)

pub record SameFrames (v w : Shown) : Type 0 where
  pub frames : (thread : ℤ) → w.frames thread ≡ v.frames thread
  pub scopes : (frame : ℕ) → w.scopes frame ≡ v.scopes frame
  pub children : (holder : ℕ) → w.children holder ≡ v.children holder

pub record SameSources (v w : Shown) : Type 0 where
  pub sources : w.sources ≡ v.sources
  pub content : (index : ℕ) → w.content index ≡ v.content index

pub record SameAnswers (v w : Shown) : Type 0 where
  pub threads : w.threads ≡ v.threads
  pub frames : SameFrames v w
  pub evaluate : (frame : Option ℕ) (text : List ℕ) → w.evaluate frame text ≡ v.evaluate frame text
  pub assigned : (holder : ℕ) (name text : List ℕ) → w.assigned holder name text ≡ v.assigned holder name text
  pub sources : SameSources v w
  pub verify : (source : SourceKey) (lines : List ℕ) → w.verify source lines ≡ v.verify source lines

-- all but the count of acts and the last one
pub record Stands (v w : Shown) : Type 0 where
  pub state : w.state ≡ v.state
  pub lines : (key : SourceKey) → w.lines key ≡ v.lines key
  pub answers : SameAnswers v w

-- ---- a value that is set

-- the first of them with a name
abbrev pub variable_named : List ℕ → List Variable → Option Variable
variable_named name variables = find (λ variable. bytes_eq name variable.name) variables

-- that one has the value, and what is said beside it; what holds its children stays
abbrev pub with_assigned : List ℕ → Assigned → List Variable → List Variable
with_assigned name a [] = []
with_assigned name a (x ∷ xs) = if bytes_eq name x.name then record { name = x.name; value = a.value; holder = x.holder; more = a.more } ∷ xs else x ∷ with_assigned name a xs

abbrev pub children_after : ℕ → List ℕ → Assigned → (ℕ → Option (List Variable)) → ℕ → Option (List Variable)
children_after holder name a before h = if nat_eq h holder then option_map (with_assigned name a) (before h) else before h

-- The first variable of the name directly in the holder has the value, with what is said beside it. State and lines are as `Moves` and `SetsLines` tell; nothing else changes, but the count of acts, the last one and what texts evaluate to
pub record SetsOneValue (holder : ℕ) (name : List ℕ) (a : Assigned) (v w : Shown) : Type 0 where
  pub threads : w.threads ≡ v.threads
  pub frames : (thread : ℤ) → w.frames thread ≡ v.frames thread
  pub scopes : (frame : ℕ) → w.scopes frame ≡ v.scopes frame
  pub children : (h : ℕ) → w.children h ≡ children_after holder name a v.children h
  pub assigned : (h : ℕ) (n text : List ℕ) → w.assigned h n text ≡ v.assigned h n text
  pub sources : SameSources v w
  pub verify : (source : SourceKey) (lines : List ℕ) → w.verify source lines ≡ v.verify source lines

-- ---- ranges

abbrev pub is_code : ℤ → Bool
is_code z = int_le (negsuc 2147483647) z && int_le z (pos 2147483647)

abbrev pub is_short : Happening → Bool
is_short happening.Nothing = true
is_short (happening.Output category text more) = is_name (category_name category) && nat_le (length text) 128
is_short (happening.Stopped reason thread more) = nat_le (length reason) 64 && is_int thread
is_short (happening.Continued thread) = is_int thread
is_short (happening.Exited code) = is_code code

-- a line in one of so many sources, or line 0 in none
abbrev pub is_place : ℕ → Option ℕ → ℕ → Bool
is_place sources None line = nat_eq line 0
is_place sources (Some source) line = nat_le 1 line && (nat_le line 2147483647 && nat_lt source sources)

-- of so many sources
abbrev pub is_frame : ℕ → Frame → Bool
is_frame sources f = is_place sources f.source f.line

-- ---- laws

abbrev pub Follows : Type 0 → Type 1
Follows View = View → Act → Reply → View → Type 0

-- each act is counted
abbrev pub Counts : {View : Type 0} → (View → Shown) → Follows View → Type 0
Counts {View} shown follows = (v w : View) (a : Act) (r : Reply) → follows v a r w → (shown w).acts ≡ ((shown v).acts + 1) % 2 ^ 64

-- each act is remembered, with its answer, but not why it was refused
abbrev pub Remembers : {View : Type 0} → (View → Shown) → Follows View → Type 0
Remembers {View} shown follows = (v w : View) (a : Act) (r : Reply) → follows v a r w → (shown w).last ≡ Some (record { asked = asked_of_act a; reply = without_reason r })

abbrev pub Answers : {View : Type 0} → (View → Shown) → Follows View → Type 0
Answers {View} shown follows = (v w : View) (a : Act) (r : Reply) → follows v a r w → IsTrue (may_answer (shown v).state a r)

abbrev pub Moves : {View : Type 0} → (View → Shown) → Follows View → Type 0
Moves {View} shown follows = (v w : View) (a : Act) (r : Reply) → follows v a r w → (shown w).state ≡ state_after (shown v).state a r

abbrev pub SetsLines : {View : Type 0} → (View → Shown) → Follows View → Type 0
SetsLines {View} shown follows = (v w : View) (a : Act) (r : Reply) → follows v a r w → (key : SourceKey) → (shown w).lines key ≡ lines_after a (shown v).lines key

abbrev pub KeepsAnswers : {View : Type 0} → (View → Shown) → Follows View → Type 0
KeepsAnswers {View} shown follows = (v w : View) (a : Act) (r : Reply) → follows v a r w → IsTrue (keeps_answers a r) → SameAnswers (shown v) (shown w)

abbrev pub KeepsFrames : {View : Type 0} → (View → Shown) → Follows View → Type 0
KeepsFrames {View} shown follows = (v w : View) (a : Act) (r : Reply) → follows v a r w → IsTrue (keeps_frames a r) → FramesStay (shown v) (shown w)

-- only what is told of a variable is set, and the variable has that value then, with what is said beside it
pub record SetsWhatIsTold (v w : Shown) (holder : ℕ) (name text : List ℕ) : Type 0 where
  pub assigned : Assigned
  pub told : v.assigned holder name text ≡ Some assigned
  pub set : SetsOneValue holder name assigned v w

abbrev pub SetsValues : {View : Type 0} → (View → Shown) → Follows View → Type 0
SetsValues {View} shown follows = (v w : View) (holder : ℕ) (name text : List ℕ) (r : Reply) → follows v (to_assign holder name text) r w → SetsWhatIsTold (shown v) (shown w) holder name text

-- each source stays at its place, with its text; more may come behind
abbrev pub KeepsSources : {View : Type 0} → (View → Shown) → Follows View → Type 0
KeepsSources {View} shown follows = (v w : View) (a : Act) (r : Reply) → follows v a r w → SourcesStay (shown v) (shown w)

-- before the start and once gone there are no threads
abbrev pub NoThreads : {View : Type 0} → (View → Shown) → Type 0
NoThreads {View} shown = (v : View) → ((shown v).state ≡ NotStarted → (shown v).threads ≡ []) × ((shown v).state ≡ Gone → (shown v).threads ≡ [])

-- one answer for each line asked
abbrev pub VerifiesEach : {View : Type 0} → (View → Shown) → Type 0
VerifiesEach {View} shown = (v : View) (source : SourceKey) (lines : List ℕ) (answers : List Placement) → (shown v).verify source lines ≡ Some answers → length answers ≡ length lines

-- only a variable that is there can be set
abbrev pub AssignsVariables : {View : Type 0} → (View → Shown) → Type 0
AssignsVariables {View} shown = (v : View) (holder : ℕ) (name text : List ℕ) → IsSome ((shown v).assigned holder name text) → IsSome (option_and_then (variable_named name) ((shown v).children holder))

-- ---- of one view

abbrev pub ThreadsInRange : Shown → Type 0
ThreadsInRange v = IsTrue (list_all (λ thread. is_int thread.id) v.threads)

abbrev pub FramesInRange : Shown → Type 0
FramesInRange v = (thread : ℤ) (frames : List Frame) → v.frames thread ≡ Some frames → IsTrue (list_all (is_frame (length v.sources)) frames)

-- an object number names one frame
abbrev pub NamesOneFrame : Shown → Type 0
NamesOneFrame v = (s t : ℤ) (fs gs : List Frame) (i j : ℕ) (f g : Frame) → v.frames s ≡ Some fs → v.frames t ≡ Some gs → slice_get fs i ≡ Some f → slice_get gs j ≡ Some g → f.object ≡ g.object → (s ≡ t) × (i ≡ j)

abbrev pub SourcesInRange : Shown → Type 0
SourcesInRange v = length v.sources ≤ 65536

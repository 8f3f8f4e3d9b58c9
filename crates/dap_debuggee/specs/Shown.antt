-- What a debuggee shows in a view: where it stands, what it was last asked, and what it answers to each query.
use Rattle.std.specs.Prelude.{◌≡◌, ℕ, ℤ, Bool, List, [], take, drop, nat_lt, codes, Option, None, if◌then◌else◌}
use Rattle.dap_command.specs.declared.source_key.SourceKey.{SourceKey}
use Rattle.dap_debuggee.specs.declared.answers.State.{State}
use Rattle.dap_debuggee.specs.declared.answers.How.{How}
use Rattle.dap_debuggee.specs.declared.answers.Asked.{Asked}
use Rattle.dap_debuggee.specs.declared.answers.Asked.TheVariants.{Start, Resume, Pause, Poll, SetBreakpoints, Assign, End}
use Rattle.dap_debuggee.specs.declared.answers.Category.{Category}
use Rattle.dap_debuggee.specs.declared.answers.Category.TheVariants.{Console, Important, Stdout, Stderr, Telemetry, Other}
use Rattle.dap_debuggee.specs.declared.answers.Happening.{Happening}
use Rattle.dap_debuggee.specs.declared.answers.Thread.{Thread}
use Rattle.dap_debuggee.specs.declared.answers.Frame.{Frame}
use Rattle.dap_debuggee.specs.declared.answers.Scope.{Scope}
use Rattle.dap_debuggee.specs.declared.answers.Variable.{Variable}
use Rattle.dap_debuggee.specs.declared.answers.Evaluation.{Evaluation}
use Rattle.dap_debuggee.specs.declared.answers.Assigned.{Assigned}
use Rattle.dap_debuggee.specs.declared.answers.Placement.{Placement}
use Rattle.dap_debuggee.specs.declared.answers.Source.{Source}
use Rattle.dap_debuggee.specs.declared.explanation.Explanation.{Explanation}
use Rattle.dap_debuggee.specs.declared.explanation.RefusedQuery.{RefusedQuery}
use Rattle.dap_debuggee.specs.declared.explanation.RefusedQuery.TheVariants.{Frames, Scopes, Children, Evaluate, Assigned as AssignedBy, Content, Verify}

abbrev pub category_name : Category → List ℕ
category_name Console = codes "console"
category_name Important = codes "important"
category_name Stdout = codes "stdout"
category_name Stderr = codes "stderr"
category_name Telemetry = codes "telemetry"
category_name (Other name) = name

-- what a debuggee is asked to do
pub data Act : Type 0 where
  to_start : Act
  to_resume : How → ℤ → Act
  to_pause : Act
  to_poll : Act
  to_set_breakpoints : SourceKey → List ℕ → Act
  -- by the holder's object number, a name and a text: the first variable of that name directly in the holder gets the value that `assigned` tells
  to_assign : ℕ → List ℕ → List ℕ → Act
  to_end : Act

-- what it answers to an act
pub data Reply : Type 0 where
  done : Reply
  -- with why, where that is said
  refused : Option Explanation → Reply
  happened : Happening → Reply

-- why it refuses, where it does and says so
abbrev pub reason_of : Reply → Option Explanation
reason_of (refused why) = why
reason_of _ = None

-- a reply as it is remembered
abbrev pub without_reason : Reply → Reply
without_reason (refused why) = refused None
without_reason reply = reply

-- an act as it is remembered: with its how and its thread
abbrev pub asked_of_act : Act → Asked
asked_of_act to_start = Start
asked_of_act (to_resume how thread) = Resume how thread
asked_of_act to_pause = Pause
asked_of_act to_poll = Poll
asked_of_act (to_set_breakpoints source lines) = SetBreakpoints
asked_of_act (to_assign holder name text) = Assign
asked_of_act to_end = End

-- the last act, with its answer, but not why it was refused
pub record Last : Type 0 where
  pub asked : Asked
  pub reply : Reply

-- what may be refused, with what is asked
pub data Query : Type 0 where
  for_frames : ℤ → Query
  for_scopes : ℕ → Query
  for_children : ℕ → Query
  for_value : Option ℕ → List ℕ → Query
  for_assigned : ℕ → List ℕ → List ℕ → Query
  for_content : ℕ → Query
  for_verified : SourceKey → List ℕ → Query

-- as it is lent
abbrev pub query_lent : RefusedQuery → Query
query_lent (Frames thread) = for_frames thread
query_lent (Scopes frame) = for_scopes frame
query_lent (Children holder) = for_children holder
query_lent (Evaluate frame text) = for_value frame text.now
query_lent (AssignedBy holder name text) = for_assigned holder name.now text.now
query_lent (Content index) = for_content index
query_lent (Verify source lines) = for_verified source.now lines.now

-- A query that is refused has no answer.
pub record Shown : Type 0 where
  pub state : State
  -- last set, by source
  pub lines : SourceKey → List ℕ
  -- how many acts were asked, modulo 2^64
  pub acts : ℕ
  pub last : Option Last
  pub threads : List Thread
  -- of a thread, by its id
  pub frames : ℤ → Option (List Frame)
  -- of a frame, by its object number
  pub scopes : ℕ → Option (List Scope)
  -- of a holder, by its object number
  pub children : ℕ → Option (List Variable)
  -- in a frame or in none
  pub evaluate : Option ℕ → List ℕ → Option Evaluation
  -- the value that a variable gets by a text: by its holder's object number, its name and the text
  pub assigned : ℕ → List ℕ → List ℕ → Option Assigned
  pub sources : List Source
  -- the text of a source, by its index
  pub content : ℕ → Option (List ℕ)
  -- of each line asked where a breakpoint is, and whether it can stop there
  pub verify : SourceKey → List ℕ → Option (List Placement)
  -- why a query is refused, where that is said; no law speaks of it
  pub why : Query → Option Explanation

-- the second shows what the first does, but for where breakpoints are
abbrev pub SameButPlaces : Shown → Shown → Type 0
SameButPlaces v w = w ≡ record v { verify = w.verify }

-- a breakpoint that is where it was asked for
abbrev pub as_asked : Bool → ℕ → Placement
as_asked verified line = record { verified = verified; line = line; message = None; more = [] }

-- a part of a list: from the place `start` on, counted from 0, at most `count` elements where `count` is above 0
abbrev pub window : {A : Type 0} → ℕ → ℕ → List A → List A
window start count xs = if nat_lt 0 count then take count (drop start xs) else drop start xs

-- What is kept of the lines so far, and what that tells of them.
use Rattle.std.specs.Prelude.{◌≡◌, ℕ, ◌≤◌, ◌==◌, List, [], ◌∷◌, ◌++◌, length, drop, Bool, false, ◌&&◌, bytes_eq, if◌then◌else◌, Option, Some, None, option_map, unwrap_or}
use Rattle.std.specs.List.{list_any}
use Rattle.std.specs.BTreeMap as tree
use Rattle.std.specs.Ordering.{nat_cmp}
use Rattle.dap_command.specs.declared.command.Gate.{Gate}
use Rattle.dap_command.specs.declared.command.Gate.TheVariants.{BreakpointLocations, Cancel, Completions, ConfigurationDone, ExceptionInfo, FunctionBreakpoints, LoadedSources, Modules, Restart, SetVariable, StepBack, Terminate}
use Rattle.dap_envelope.specs.declared.message.Kind.{Kind}
use Rattle.dap_envelope.specs.declared.message.Kind.TheVariants.{Request, Response, Event, Other}
use Rattle.dap_check.specs.Lines.{other_side, is_of, asks_as, asks_for, answers}
use Rattle.dap_check.specs.Places.{decided_by, switches_on, switches_off}
use Rattle.dap_check.specs.Rules.{resumes}
use Rattle.dap_check.specs.Since.{is_open}
use Rattle.dap_explain.specs.KeptTrails.{last_of, trails}
use Rattle.dap_explain.specs.Reasons.{trail, no_line, decides, gives}
use Rattle.dap_check.specs.declared.line.Line.{Line}
use Rattle.dap_check.specs.declared.line.Side.{Side}
use Rattle.dap_check.specs.declared.line.Side.TheVariants.{Client, Adapter}
use Rattle.dap_explain.specs.declared.asked.Asked.{Asked}
use Rattle.dap_explain.specs.declared.asked.LastAsked.{LastAsked}
use Rattle.dap_explain.specs.declared.decisions.Decision.{Decision}
use Rattle.dap_explain.specs.declared.decisions.Decisions.{Decisions}
use Rattle.dap_explain.specs.declared.given.Given.{Given}
use Rattle.dap_explain.specs.declared.given.LastGiven.{LastGiven}
use Rattle.dap_explain.specs.declared.notes.Notes.{Notes}
use Rattle.dap_explain.specs.declared.reason.ReferenceKind.{ReferenceKind}
use Rattle.dap_explain.specs.declared.reason.ReferenceKind.TheVariants.{Frame, Variables}
use Rattle.dap_explain.specs.declared.trail.Last.{Last}
use Rattle.dap_explain.specs.declared.trail.Opened.{Opened}

abbrev pub no_last : Last
no_last = record { opened = None; closed = None }

-- ---- requests by their numbers

abbrev pub last_in : Option LastAsked → Last
last_in None = no_last
last_in (Some asked) = record { opened = Some asked.opened; closed = asked.closed }

abbrev pub waiting_in : Option LastAsked → List (List ℕ)
waiting_in None = []
waiting_in (Some asked) = asked.waiting.items

abbrev pub last_at : Asked → ℕ → Last
last_at asked n = last_in (tree.get nat_cmp asked.requests n)

abbrev pub waiting_at : Asked → ℕ → List (List ℕ)
waiting_at asked n = waiting_in (tree.get nat_cmp asked.requests n)

-- the first response since, where one has come in this line
abbrev pub answered_in : ℕ → Option Opened → Option ℕ → Option ℕ
answered_in line None closed = closed
answered_in line (Some opened) closed = Some (unwrap_or closed line)

abbrev pub answered_by : ℕ → Last → Last
answered_by line last = record { opened = last.opened; closed = answered_in line last.opened last.closed }

abbrev pub command_in : Kind → List (List ℕ)
command_in (Request command arguments) = command ∷ []
command_in (Response request_seq success command message body) = []
command_in (Event event body) = []
command_in (Other tag) = []

-- one line later
abbrev pub last_after : Side → Line → ℕ → Last → Last
last_after side line n last = if asks_as side n line then record { opened = Some (record { line = line.number; seq = line.message.seq }); closed = None } else (if answers (other_side side) n line then answered_by line.number last else last)

abbrev pub waiting_after : Side → Line → ℕ → List (List ℕ) → List (List ℕ)
waiting_after side line n waiting = (if answers (other_side side) n line then [] else waiting) ++ (if is_of side line && (line.message.seq == n) then command_in line.message.kind else [])

pub record AreAsked (asked : Asked) (side : Side) (earlier : List Line) : Type 0 where
  pub last : (n : ℕ) → last_at asked n ≡ last_of (trail (asks_as side n) (λ m. answers (other_side side) n) earlier)
  pub waits : (n : ℕ) (name : List ℕ) → list_any (λ command. bytes_eq command name) (waiting_at asked n) ≡ is_open (asks_for side n name) (answers (other_side side) n) earlier

-- ---- flags

abbrev pub decision_at : Decisions → Gate → Option Decision
decision_at decisions BreakpointLocations = decisions.breakpoint_locations
decision_at decisions Cancel = decisions.cancel
decision_at decisions Completions = decisions.completions
decision_at decisions ConfigurationDone = decisions.configuration_done
decision_at decisions ExceptionInfo = decisions.exception_info
decision_at decisions FunctionBreakpoints = decisions.function_breakpoints
decision_at decisions LoadedSources = decisions.loaded_sources
decision_at decisions Modules = decisions.modules
decision_at decisions Restart = decisions.restart
decision_at decisions SetVariable = decisions.set_variable
decision_at decisions StepBack = decisions.step_back
decision_at decisions Terminate = decisions.terminate

abbrev pub decided_in : Line → Option Bool → Option Decision → Option Decision
decided_in line None before = before
decided_in line (Some on) before = Some (record { line = line.number; is_on = on })

-- one line later
abbrev pub decision_after : Gate → Line → Option Decision → Option Decision
decision_after gate line before = decided_in line (decided_by gate line) before

abbrev pub is_on_in : Option Decision → Bool
is_on_in None = false
is_on_in (Some decision) = decision.is_on

abbrev pub line_in : Option Decision → Option ℕ
line_in decision = option_map (λ d. d.line) decision

pub record IsDecided (gate : Gate) (decision : Option Decision) (earlier : List Line) : Type 0 where
  pub on : is_on_in decision ≡ is_open (switches_on gate) (switches_off gate) earlier
  pub line : line_in decision ≡ option_map (λ last. last.line) (trail (decides gate) no_line earlier).opened

abbrev pub AreDecisions : Decisions → List Line → Type 0
AreDecisions decisions earlier = (gate : Gate) → IsDecided gate (decision_at decisions gate) earlier

-- ---- references

abbrev pub given_at : Given → ReferenceKind → ℕ → Option LastGiven
given_at given Frame n = tree.get nat_cmp given.frames n
given_at given Variables n = tree.get nat_cmp given.holders n

abbrev pub first_of : List ℕ → Option ℕ
first_of [] = None
first_of (line ∷ later) = Some line

-- the first line since that lets the debuggee go on, of all that do
abbrev pub last_given : List ℕ → Option LastGiven → Last
last_given resumptions None = no_last
last_given resumptions (Some given) = record { opened = Some given.opened; closed = first_of (drop given.resumptions resumptions) }

-- so many had let it go on
abbrev pub IsWithin : ℕ → Option LastGiven → Type 0
IsWithin count None = Unit {0}
IsWithin count (Some given) = given.resumptions ≤ count

pub record AreGiven (given : Given) (earlier : List Line) : Type 0 where
  pub last : (kind : ReferenceKind) (n : ℕ) → last_given given.resumptions.items (given_at given kind n) ≡ last_of (trail (gives kind n) (λ m. resumes) earlier)
  pub within : (kind : ReferenceKind) (n : ℕ) → IsWithin (length given.resumptions.items) (given_at given kind n)

-- ---- all that is kept

abbrev pub asked_of : Notes → Side → Asked
asked_of notes Client = notes.client
asked_of notes Adapter = notes.adapter

pub record AreNotes (notes : Notes) (earlier : List Line) : Type 0 where
  pub trails : notes.trails ≡ trails earlier
  pub decisions : AreDecisions notes.decisions earlier
  pub asked : (side : Side) → AreAsked (asked_of notes side) side earlier
  pub given : AreGiven notes.given earlier

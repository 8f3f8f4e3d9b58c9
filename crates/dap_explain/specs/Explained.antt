-- What a checker with reasons has taken, and what it tells of the next line.
use Rattle.std.specs.Prelude.{◌≡◌, ◌≢◌, Vec, ℕ, ◌+◌, ◌<◌, List, [], ◌∷◌, ◌++◌, length, true, if◌then◌else◌, Option, Some, None}
use Rattle.dap_check.specs.Checking.{taken_by, HasTaken, IsFound}
use Rattle.dap_check.specs.Findings.{open_requests}
use Rattle.dap_check.specs.Transcript.{IsLine}
use Rattle.dap_check.specs.declared.checking.CheckFault.{CheckFault}
use Rattle.dap_check.specs.declared.checking.CheckFault.TheVariants.{OutOfMemory}
use Rattle.dap_check.specs.declared.rule.OpenRequest.{OpenRequest}
use Rattle.dap_check.specs.declared.found.Broken.{Broken}
use Rattle.dap_check.specs.declared.found.Broken.TheVariants.{Rule as OfRule, Body as OfBody}
use Rattle.dap_check.specs.declared.found.CheckMode.{CheckMode}
use Rattle.dap_check.specs.declared.line.Line.{Line}
use Rattle.dap_explain.specs.KeptNotes.{AreNotes}
use Rattle.dap_explain.specs.Reasons.{reason_of}
use Rattle.dap_explain.specs.declared.reasoning.ExplainedChecker.{ExplainedChecker}
use Rattle.dap_explain.specs.declared.reason.Reason.{Reason}
use Rattle.dap_explain.specs.declared.told.LineTold.{LineTold}

-- why a line breaks the one of the seven rules that was found
abbrev pub reason_in : Option Broken → List Line → Line → Option Reason
reason_in None earlier line = None
reason_in (Some (OfRule rule)) earlier line = reason_of rule earlier line
reason_in (Some (OfBody fault)) earlier line = None

pub record IsTold (mode : CheckMode) (earlier : List Line) (line : Line) (told : LineTold) : Type 0 where
  pub found : IsFound mode earlier line told.found
  pub reason : told.reason ≡ (if mode.whole then reason_in told.found.broken earlier line else None)

-- how many texts it has taken
abbrev pub noted_by : ExplainedChecker → ℕ
noted_by checker = taken_by checker.checker

-- these texts were taken in this mode, and have these lines
pub record HasNoted (mode : CheckMode) (texts : List (List ℕ)) (lines : List Line) (checker : ExplainedChecker) : Type 0 where
  pub taken : HasTaken mode texts lines checker.checker
  pub asked : checker.explains ≡ mode.whole
  pub notes : mode.whole ≡ true → AreNotes checker.notes lines

-- one text more was taken: it is the next line, or has no bytes
abbrev pub TakesAndTells : CheckMode → List (List ℕ) → List Line → List ℕ → Option LineTold → ExplainedChecker → Type 0
TakesAndTells mode texts lines text None after = (length text ≡ 0) × HasNoted mode (texts ++ text ∷ []) lines after
TakesAndTells mode texts lines text (Some told) after = (0 < length text) × ((line : Line) × IsLine (length texts + 1) text line × IsTold mode lines line told × HasNoted mode (texts ++ text ∷ []) (lines ++ line ∷ []) after)

-- ---- the same, whatever it had taken

-- one text more is taken
abbrev pub TellsNext : ExplainedChecker → List ℕ → ExplainedChecker → Option LineTold → Type 0
TellsNext before text after told = (mode : CheckMode) (texts : List (List ℕ)) (lines : List Line) → HasNoted mode texts lines before → TakesAndTells mode texts lines text told after

-- nothing is, unless memory is refused
abbrev pub KeepsNoted : ExplainedChecker → ExplainedChecker → CheckFault → Type 0
KeepsNoted before after fault = fault ≢ OutOfMemory → (mode : CheckMode) (texts : List (List ℕ)) (lines : List Line) → HasNoted mode texts lines before → HasNoted mode texts lines after

-- the requests of its lines that nothing has answered
abbrev pub AreUnansweredOf : {A : Type 0} → ExplainedChecker → Vec OpenRequest A → Type 0
AreUnansweredOf checker requests = (mode : CheckMode) (texts : List (List ℕ)) (lines : List Line) → HasNoted mode texts lines checker → requests.items ≡ open_requests lines

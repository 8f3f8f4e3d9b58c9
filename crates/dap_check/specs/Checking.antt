-- What a checker of lines has taken, and what it finds of the next one. The rules stand in `Rules`, what a message has to hold
-- in `dap_shape`. That rule 8 counts last, and where it is asked for alone, is this profile's choice.
use Rattle.std.specs.Prelude.{◌≡◌, ◌≢◌, Vec, ℕ, ◌+◌, ◌<◌, List, [], ◌∷◌, ◌++◌, length, Bool, true, false, ◌||◌, if◌then◌else◌, Option, Some, None, option_map}
use Rattle.dap_envelope.specs.declared.message.Kind.{Kind}
use Rattle.dap_shape.specs.Faults.{fault_in}
use Rattle.dap_shape.specs.Seen.{fault_seen}
use Rattle.dap_check.specs.Legal.{number_of, least_broken}
use Rattle.dap_check.specs.Kept.{IsSeen}
use Rattle.dap_check.specs.Transcript.{IsLine, AreLines}
use Rattle.dap_check.specs.declared.checker.Checker.{Checker}
use Rattle.dap_check.specs.Findings.{open_requests}
use Rattle.dap_check.specs.declared.checking.CheckFault.{CheckFault}
use Rattle.dap_check.specs.declared.checking.CheckFault.TheVariants.{OutOfMemory}
use Rattle.dap_check.specs.declared.rule.OpenRequest.{OpenRequest}
use Rattle.dap_check.specs.declared.found.Broken.{Broken}
use Rattle.dap_check.specs.declared.found.Broken.TheVariants.{Rule as OfRule, Body as OfBody}
use Rattle.dap_check.specs.declared.found.CheckMode.{CheckMode}
use Rattle.dap_check.specs.declared.found.LineFound.{LineFound}
use Rattle.dap_check.specs.declared.line.Line.{Line}

-- ---- what a line breaks

abbrev pub number_of_broken : Broken → ℕ
number_of_broken (OfRule rule) = number_of rule
number_of_broken (OfBody fault) = 8

abbrev pub is_of_body : Option Broken → Bool
is_of_body None = false
is_of_body (Some (OfRule rule)) = false
is_of_body (Some (OfBody fault)) = true

-- by the message alone
abbrev pub IsBrokenBody : Kind → Option Broken → Type 0
IsBrokenBody kind None = fault_in kind ≡ None
IsBrokenBody kind (Some (OfRule rule)) = ⊥
IsBrokenBody kind (Some (OfBody fault)) = fault_in kind ≡ Some (fault_seen fault)

-- where it stands after these: the least of the seven rules that it breaks, or else rule 8, where bodies count
abbrev pub IsBroken : CheckMode → List Line → Line → Option Broken → Type 0
IsBroken mode earlier line None = (least_broken mode.any_seq earlier line ≡ None) × (mode.bodies ≡ true → fault_in line.message.kind ≡ None)
IsBroken mode earlier line (Some (OfRule rule)) = least_broken mode.any_seq earlier line ≡ Some rule
IsBroken mode earlier line (Some (OfBody fault)) = (least_broken mode.any_seq earlier line ≡ None) × (mode.bodies ≡ true) × (fault_in line.message.kind ≡ Some (fault_seen fault))

-- ---- what is found of a line

-- the line that is given back
abbrev pub line_in : LineFound → Option Line
line_in found = option_map (λ boxed. boxed.value) found.line

pub record IsFound (mode : CheckMode) (earlier : List Line) (line : Line) (found : LineFound) : Type 0 where
  pub numbered : found.number ≡ line.number
  pub side : found.side ≡ line.side
  pub broken : IsBroken mode earlier line found.broken
  -- with its message where that is asked for, and where it breaks rule 8
  pub given_back : line_in found ≡ (if mode.whole || is_of_body found.broken then Some line else None)

-- ---- what a checker has taken

-- how many texts, those without bytes too
abbrev pub taken_by : Checker → ℕ
taken_by checker = checker.number

-- these texts were taken in this mode, and have these lines
pub record HasTaken (mode : CheckMode) (texts : List (List ℕ)) (lines : List Line) (checker : Checker) : Type 0 where
  pub asked : checker.mode ≡ mode
  pub count : taken_by checker ≡ length texts
  pub are : AreLines 1 texts lines
  pub seen : IsSeen checker.seen lines

-- one text more was taken: it is the next line, or has no bytes
abbrev pub TakesText : CheckMode → List (List ℕ) → List Line → List ℕ → Option LineFound → Checker → Type 0
TakesText mode texts lines text None after = (length text ≡ 0) × HasTaken mode (texts ++ text ∷ []) lines after
TakesText mode texts lines text (Some found) after = (0 < length text) × ((line : Line) × IsLine (length texts + 1) text line × IsFound mode lines line found × HasTaken mode (texts ++ text ∷ []) (lines ++ line ∷ []) after)

-- ---- the same, whatever it had taken

-- one text more is taken
abbrev pub TakesNextText : Checker → List ℕ → Checker → Option LineFound → Type 0
TakesNextText before text after found = (mode : CheckMode) (texts : List (List ℕ)) (lines : List Line) → HasTaken mode texts lines before → TakesText mode texts lines text found after

-- nothing is, unless memory is refused
abbrev pub KeepsTaken : Checker → Checker → CheckFault → Type 0
KeepsTaken before after fault = fault ≢ OutOfMemory → (mode : CheckMode) (texts : List (List ℕ)) (lines : List Line) → HasTaken mode texts lines before → HasTaken mode texts lines after

-- the requests of its lines that nothing has answered
abbrev pub AreUnanswered : {A : Type 0} → Checker → Vec OpenRequest A → Type 0
AreUnanswered checker requests = (mode : CheckMode) (texts : List (List ℕ)) (lines : List Line) → HasTaken mode texts lines checker → requests.items ≡ open_requests lines

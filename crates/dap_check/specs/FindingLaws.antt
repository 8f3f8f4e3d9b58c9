-- Which lines are listed as findings, and which requests as unanswered.
use Rattle.std.specs.Prelude.{◌≡◌, ◌↔◌, ◌<◌, ℕ, List, [], ◌∷◌, ◌++◌, ◌&&◌, false, bytes_eq, Some}
use Rattle.std.specs.List.{list_any, Contains}
use Rattle.dap_check.specs.Findings.{findings, first_of, request_of, is_answered, open_requests, is_open_as}
use Rattle.dap_check.specs.Legal.{least_broken, IsVerdict}
use Rattle.dap_check.specs.Rules.{waits, waits_for}
use Rattle.dap_check.specs.Transcript.{AreLines}
use Rattle.dap_check.specs.declared.line.Line.{Line}
use Rattle.dap_check.specs.declared.line.Side.{Side}
use Rattle.dap_check.specs.declared.rule.AnySeq.{AnySeq}
use Rattle.dap_check.specs.declared.rule.Finding.{Finding}
use Rattle.dap_check.specs.declared.rule.OpenRequest.{OpenRequest}

-- ---- findings

-- at some place stands a line with this number, and this is the least rule that it breaks there
pub record IsFindingIn (any_seq : AnySeq) (lines : List Line) (finding : Finding) : Type 0 where
  pub earlier : List Line
  pub line : Line
  pub later : List Line
  pub split : lines ≡ earlier ++ line ∷ later
  pub numbered : finding.line ≡ line.number
  pub broken : least_broken any_seq earlier line ≡ Some finding.rule

-- a line is listed where it breaks a rule, and nowhere else
abbrev pub FindingsAreBrokenRules : Type 0
FindingsAreBrokenRules = (any_seq : AnySeq) (lines : List Line) (finding : Finding) → Contains (findings any_seq lines) finding ↔ IsFindingIn any_seq lines finding

-- the first that is listed is the verdict, and where none is, the transcript is legal
abbrev pub FirstFindingIsTheVerdict : Type 0
FirstFindingIsTheVerdict = (any_seq : AnySeq) (lines : List Line) → IsVerdict any_seq lines (first_of (findings any_seq lines))

-- of two that are listed the first has the lesser number: so they are listed in the order of their lines, and no line twice
abbrev pub FindingsAreInOrder : Type 0
FindingsAreInOrder =
    (any_seq : AnySeq) (texts : List (List ℕ)) (lines : List Line) → AreLines 1 texts lines
    → (before : List Finding) (first : Finding) (between : List Finding) (second : Finding) (after : List Finding) → findings any_seq lines ≡ before ++ first ∷ (between ++ second ∷ after) → first.line < second.line

-- ---- unanswered requests

-- at some place stands a line that is this request, and no line since answers it
pub record IsUnansweredIn (lines : List Line) (request : OpenRequest) : Type 0 where
  pub earlier : List Line
  pub line : Line
  pub since : List Line
  pub split : lines ≡ earlier ++ line ∷ since
  pub asks : request_of line ≡ request ∷ []
  pub unanswered : is_answered line.side line.message.seq since ≡ false

abbrev pub OpenRequestsAreUnanswered : Type 0
OpenRequestsAreUnanswered = (lines : List Line) (request : OpenRequest) → Contains (open_requests lines) request ↔ IsUnansweredIn lines request

-- they are those that wait for a response, by the words of the second rule
pub record OpenRequestsWait : Type 0 where
  pub any : (side : Side) (n : ℕ) (lines : List Line) → waits side n lines ≡ list_any (is_open_as side n) (open_requests lines)
  pub each : (side : Side) (n : ℕ) (name : List ℕ) (lines : List Line) → waits_for side n name lines ≡ list_any (λ request. is_open_as side n request && bytes_eq request.command name) (open_requests lines)

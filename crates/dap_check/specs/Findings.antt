-- All lines that break a rule, and all requests that nothing has answered: Specification, "Request" and "Response". That a line
-- is judged by all lines before it, those that break a rule too, is this profile's choice.
use Rattle.std.specs.Prelude.{◌≡◌, ℕ, ◌==◌, List, [], ◌∷◌, ◌++◌, Bool, ◌&&◌, if◌then◌else◌, Option, Some, None}
use Rattle.std.specs.List.{list_any}
use Rattle.dap_envelope.specs.declared.message.Kind.{Kind}
use Rattle.dap_envelope.specs.declared.message.Kind.TheVariants.{Request, Response, Event, Other}
use Rattle.dap_check.specs.Legal.{least_broken}
use Rattle.dap_check.specs.Lines.{other_side, same_side, answers}
use Rattle.dap_check.specs.declared.line.Line.{Line}
use Rattle.dap_check.specs.declared.line.Side.{Side}
use Rattle.dap_check.specs.declared.rule.AnySeq.{AnySeq}
use Rattle.dap_check.specs.declared.rule.Rule.{Rule}
use Rattle.dap_check.specs.declared.rule.Checked.{Checked}
use Rattle.dap_check.specs.declared.rule.Checked.TheVariants.{Legal, Finding as Found}
use Rattle.dap_check.specs.declared.rule.Finding.{Finding}
use Rattle.dap_check.specs.declared.rule.OpenRequest.{OpenRequest}
use Rattle.dap_check.specs.declared.rule.Report.{Report}

-- ---- the lines that break a rule

-- the line of this number, with the least rule that it breaks, if it breaks one
abbrev pub finding_at : ℕ → Option Rule → List Finding
finding_at number None = []
finding_at number (Some rule) = record { line = number; rule = rule } ∷ []

-- of lines that stand after these
abbrev pub findings_after : AnySeq → List Line → List Line → List Finding
findings_after any_seq earlier [] = []
findings_after any_seq earlier (line ∷ later) = finding_at line.number (least_broken any_seq earlier line) ++ findings_after any_seq (earlier ++ line ∷ []) later

abbrev pub findings : AnySeq → List Line → List Finding
findings any_seq lines = findings_after any_seq [] lines

-- what is told of the transcript is the first of them
abbrev pub first_of : List Finding → Checked
first_of [] = Legal
first_of (finding ∷ later) = Found finding.line finding.rule

-- ---- the requests that nothing has answered

-- the request that a line is, if it is one
abbrev pub request_at : ℕ → Side → ℕ → Kind → List OpenRequest
request_at number side seq (Request command arguments) = record { line = number; side = side; seq = seq; command = command } ∷ []
request_at number side seq (Response request_seq success command message body) = []
request_at number side seq (Event event body) = []
request_at number side seq (Other tag) = []

abbrev pub request_of : Line → List OpenRequest
request_of line = request_at line.number line.side line.message.seq line.message.kind

-- a line since answers a request of this side with this number
abbrev pub is_answered : Side → ℕ → List Line → Bool
is_answered side seq since = list_any (answers (other_side side) seq) since

abbrev pub open_requests : List Line → List OpenRequest
open_requests [] = []
open_requests (line ∷ since) = (if is_answered line.side line.message.seq since then [] else request_of line) ++ open_requests since

-- a request of the side with this number
abbrev pub is_open_as : Side → ℕ → OpenRequest → Bool
is_open_as side seq request = same_side side request.side && (request.seq == seq)

-- ---- all that is found

pub record IsReport (any_seq : AnySeq) (lines : List Line) (report : Report) : Type 0 where
  pub found : report.findings.items ≡ findings any_seq lines
  pub unanswered : report.unanswered.items ≡ open_requests lines

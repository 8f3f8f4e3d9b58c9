-- What a program prints of a transcript that it checks. It is this profile's choice.
use Rattle.std.specs.Prelude.{◌≡◌, ◌↔◌, ℕ, ◌==◌, List, [], ◌∷◌, ◌++◌, Bool, true, false, ◌&&◌, length, take, flat_map, codes, decimal, if◌then◌else◌, Option, Some, None, is_some, MatchResult, Result}
use Rattle.std.specs.List.{list_any}
use Rattle.std.specs.Str.Lines.{lines}
use Rattle.dap_check.specs.Findings.{open_requests}
use Rattle.dap_check.specs.Legal.{number_of, least_broken, IsLegal}
use Rattle.dap_check.specs.Transcript.{AreLines}
use Rattle.dap_check.specs.declared.checking.CheckFault.{CheckFault}
use Rattle.dap_check.specs.declared.checking.CheckFault.TheVariants.{OutOfMemory}
use Rattle.dap_check.specs.declared.line.Line.{Line}
use Rattle.dap_check.specs.declared.rule.AnySeq.{AnySeq}
use Rattle.dap_check.specs.declared.rule.Checked.{Checked}
use Rattle.dap_check.specs.declared.rule.Checked.TheVariants.{Legal, Finding}
use Rattle.dap_check.specs.declared.rule.OpenRequest.{OpenRequest}
use Rattle.dap_check.specs.declared.rule.Rule.{Rule}
use Rattle.dap_envelope.specs.declared.message.Kind.{Kind}
use Rattle.dap_explain.specs.Reasons.{reason_of}
use Rattle.dap_explain.specs.Sentences.{joined_text, sentence_of}
use Rattle.dap_explain.specs.declared.reason.Reason.{Reason}
use Rattle.dap_shape.specs.Shapes.{Fault}
use Rattle.dap_shape.specs.Faults.{fault_in}
use Rattle.dap_shape.specs.Sentences.{sentence_of as sentence_of_fault}
use Rattle.dap_stream.specs.Lines.{shown_text}
use Rattle.dap_tool.specs.Commands.{words_of_command}
use Rattle.dap_tool.specs.Hints.{hint_if}
use Rattle.dap_tool.specs.declared.verdict.CheckOptions.{CheckOptions}
use Rattle.dap_tool.specs.declared.verdict.VerdictText.{VerdictText}

-- ---- lines that break a rule

abbrev pub text_of_finding : ℕ → Rule → List ℕ
text_of_finding line rule = codes "line " ++ decimal line ++ codes " rule " ++ decimal (number_of rule) ++ codes "\n"

-- what `check` says, alone
abbrev pub text_of_checked : Checked → List ℕ
text_of_checked Legal = codes "legal\n"
text_of_checked (Finding line rule) = text_of_finding line rule

-- why one breaks it
abbrev pub text_of_reason : Reason → List ℕ
text_of_reason reason = sentence_of reason ++ codes "\n"

abbrev pub text_of_why : Option Reason → List ℕ
text_of_why None = []
text_of_why (Some reason) = text_of_reason reason

-- of a line after these, with the reason where it is asked for
abbrev pub text_at : Bool → List Line → Line → Rule → List ℕ
text_at explained earlier line rule = text_of_finding line.number rule ++ (if explained then text_of_why (reason_of rule earlier line) else [])

-- where a message is not as the Specification has it, with the sentence where it is asked for: rule 8
abbrev pub text_of_fault : Bool → ℕ → Kind → Fault → List ℕ
text_of_fault explained number kind fault = codes "line " ++ decimal number ++ codes " rule 8\n" ++ (if explained then sentence_of_fault kind fault ++ codes "\n" else [])

abbrev pub texts_of_body : Bool → ℕ → Kind → Option Fault → List (List ℕ)
texts_of_body explained number kind None = []
texts_of_body explained number kind (Some fault) = text_of_fault explained number kind fault ∷ []

-- of a line that breaks this rule, or none of the seven, and then rule 8 counts where bodies are checked
abbrev pub text_if : Bool → Bool → List Line → Line → Option Rule → List (List ℕ)
text_if explained bodies earlier line None = if bodies then texts_of_body explained line.number line.message.kind (fault_in line.message.kind) else []
text_if explained bodies earlier line (Some rule) = text_at explained earlier line rule ∷ []

-- of lines that stand after these
abbrev pub texts_after : AnySeq → Bool → Bool → List Line → List Line → List (List ℕ)
texts_after any_seq explained bodies earlier [] = []
texts_after any_seq explained bodies earlier (line ∷ later) = text_if explained bodies earlier line (least_broken any_seq earlier line) ++ texts_after any_seq explained bodies (earlier ++ line ∷ []) later

abbrev pub texts_of : AnySeq → Bool → Bool → List Line → List (List ℕ)
texts_of any_seq explained bodies lines = texts_after any_seq explained bodies [] lines

-- ---- how many there are

abbrev pub count_text : ℕ → List ℕ
count_text n = if n == 1 then codes "1 finding\n" else decimal n ++ codes " findings\n"

-- where all are asked for, or there is none
abbrev pub closing_text : Bool → ℕ → List ℕ
closing_text all n = if n == 0 then codes "legal\n" else (if all then count_text n else [])

-- all of them, or the first
abbrev pub findings_text : Bool → List (List ℕ) → List ℕ
findings_text all texts = joined_text (if all then texts else take 1 texts) ++ closing_text all (length texts)

-- ---- requests that nothing has answered

abbrev pub text_of_request : OpenRequest → List ℕ
text_of_request request = codes "line " ++ decimal request.line ++ codes " request " ++ decimal request.seq ++ codes " " ++ shown_text request.command ++ codes " is not answered\n"

-- with what is said of its command, where it is to be explained
abbrev pub text_of_open : Bool → OpenRequest → List ℕ
text_of_open explained request = text_of_request request ++ (if explained then words_of_command request.command else [])

abbrev pub open_text : Bool → Bool → List OpenRequest → List ℕ
open_text unanswered explained requests = if unanswered then flat_map (text_of_open explained) requests else []

-- ---- of a transcript

-- by the texts of the lines that break a rule
abbrev pub printed_text : CheckOptions → List (List ℕ) → List Line → List ℕ
printed_text options texts lines = (findings_text options.all texts ++ hint_if options.explained options.any_seq lines) ++ open_text options.unanswered options.explained (open_requests lines)

abbrev pub text_of_verdict : CheckOptions → List Line → List ℕ
text_of_verdict options lines = printed_text options (texts_of options.any_seq options.explained options.bodies lines) lines

-- some message is not as the Specification has it
abbrev pub has_fault : List Line → Bool
has_fault lines = list_any (λ line. is_some (fault_in line.message.kind)) lines

pub record IsVerdictText (options : CheckOptions) (lines : List Line) (printed : VerdictText) : Type 0 where
  pub text : printed.text.items ≡ text_of_verdict options lines
  pub legal : (printed.is_legal ≡ true) ↔ (IsLegal options.any_seq lines × ((options.bodies && has_fault lines) ≡ false))

-- ---- of a transcript that is given as bytes

-- they have lines, and this is printed of them
abbrev pub IsVerdictTextOn : CheckOptions → List ℕ → VerdictText → Type 0
IsVerdictTextOn options bytes printed = (transcript : List Line) × AreLines 1 (lines bytes) transcript × IsVerdictText options transcript printed

-- where they have lines, what is printed of them is the answer, unless memory is refused
abbrev pub GivesVerdictText : CheckOptions → List ℕ → Result VerdictText CheckFault → Type 0
GivesVerdictText options bytes result = (transcript : List Line) → AreLines 1 (lines bytes) transcript → MatchResult result (IsVerdictText options transcript) (λ fault. fault ≡ OutOfMemory)

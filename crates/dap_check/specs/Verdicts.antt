-- What is answered of a transcript that is given as bytes. That it is such a text is this profile's choice.
use Rattle.std.specs.Prelude.{◌≡◌, ℕ, List, Result, Ok, MatchResult}
use Rattle.std.specs.Str.Lines.{lines}
use Rattle.dap_check.specs.Findings.{IsReport}
use Rattle.dap_check.specs.Legal.{IsVerdict}
use Rattle.dap_check.specs.Transcript.{AreLines, IsOrOutOfMemory}
use Rattle.dap_check.specs.declared.checking.CheckFault.{CheckFault}
use Rattle.dap_check.specs.declared.checking.CheckFault.TheVariants.{OutOfMemory}
use Rattle.dap_check.specs.declared.line.Line.{Line}
use Rattle.dap_check.specs.declared.rule.AnySeq.{AnySeq}
use Rattle.dap_check.specs.declared.rule.Checked.{Checked}
use Rattle.dap_check.specs.declared.rule.Report.{Report}

-- the bytes have lines, and this is the verdict on them
abbrev pub IsVerdictOnBytes : AnySeq → List ℕ → Checked → Type 0
IsVerdictOnBytes any_seq bytes told = (transcript : List Line) × AreLines 1 (lines bytes) transcript × IsVerdict any_seq transcript told

-- where they have lines, the verdict on them is the answer
abbrev pub GivesVerdict : AnySeq → List ℕ → Result Checked CheckFault → Type 0
GivesVerdict any_seq bytes result = (transcript : List Line) (told : Checked) → AreLines 1 (lines bytes) transcript → IsVerdict any_seq transcript told → IsOrOutOfMemory (Ok told) result

-- the bytes have lines, and this is found of them
abbrev pub IsReportOnBytes : AnySeq → List ℕ → Report → Type 0
IsReportOnBytes any_seq bytes report = (transcript : List Line) × AreLines 1 (lines bytes) transcript × IsReport any_seq transcript report

-- where they have lines, what is found of them is the answer, unless memory is refused
abbrev pub GivesReport : AnySeq → List ℕ → Result Report CheckFault → Type 0
GivesReport any_seq bytes result = (transcript : List Line) → AreLines 1 (lines bytes) transcript → MatchResult result (IsReport any_seq transcript) (λ fault. fault ≡ OutOfMemory)

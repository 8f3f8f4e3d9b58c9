-- What is answered of one line of a transcript, unless memory is refused.
use Rattle.std.specs.Prelude.{◌≡◌, ℕ, ◌==◌, List, [], ◌∷◌, ◌++◌, Bool, false, Option, None, Result, Ok}
use Rattle.std.specs.List.{list_any}
use Rattle.dap_check.specs.Transcript.{AreLines, IsOrOutOfMemory}
use Rattle.dap_check.specs.declared.checking.CheckFault.{CheckFault}
use Rattle.dap_check.specs.declared.line.Line.{Line}
use Rattle.dap_check.specs.declared.rule.Rule.{Rule}
use Rattle.dap_explain.specs.Reasons.{reason_of}
use Rattle.dap_explain.specs.declared.reason.Reason.{Reason}

-- where the texts have lines, the one of this number among them, the answer is its reason by those before it
abbrev pub ExplainsLine : ℕ → Rule → List (List ℕ) → Result (Option Reason) CheckFault → Type 0
ExplainsLine number rule texts result = (earlier : List Line) (line : Line) (later : List Line)
    → AreLines 1 texts (earlier ++ line ∷ later) → line.number ≡ number → IsOrOutOfMemory (Ok (reason_of rule earlier line)) result

-- the same of the last of them
abbrev pub ExplainsLastLine : ℕ → Rule → List (List ℕ) → Result (Option Reason) CheckFault → Type 0
ExplainsLastLine number rule texts result = (earlier : List Line) (line : Line)
    → AreLines 1 texts (earlier ++ line ∷ []) → line.number ≡ number → IsOrOutOfMemory (Ok (reason_of rule earlier line)) result

abbrev pub has_line_numbered : ℕ → List Line → Bool
has_line_numbered number transcript = list_any (λ line. line.number == number) transcript

-- where none of them has this number, the answer is none
abbrev pub ExplainsNoLine : ℕ → List (List ℕ) → Result (Option Reason) CheckFault → Type 0
ExplainsNoLine number texts result = (transcript : List Line)
    → AreLines 1 texts transcript → has_line_numbered number transcript ≡ false → IsOrOutOfMemory (Ok None) result

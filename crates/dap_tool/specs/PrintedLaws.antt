-- In which order the lines that break a rule are printed.
use Rattle.std.specs.Prelude.{◌≡◌, ◌<◌, ℕ, List, ◌∷◌, ◌++◌, Bool, codes, decimal}
use Rattle.dap_check.specs.Transcript.{AreLines}
use Rattle.dap_check.specs.declared.line.Line.{Line}
use Rattle.dap_check.specs.declared.rule.AnySeq.{AnySeq}
use Rattle.dap_tool.specs.Verdicts.{texts_of}

-- a text is of the line of this number
abbrev pub IsOfLine : ℕ → List ℕ → Type 0
IsOfLine number text = (rest : List ℕ) × (text ≡ codes "line " ++ decimal number ++ codes " rule " ++ rest)

-- of two lines the first has the lesser number: so they are printed in order, and no line twice
pub record IsBefore (first second : List ℕ) : Type 0 where
  pub number : ℕ
  pub later_number : ℕ
  pub is : IsOfLine number first
  pub later_is : IsOfLine later_number second
  pub less : number < later_number

-- those of the seven rules and those of rule 8 together, where bodies are checked
abbrev pub LinesAreInOrder : Type 0
LinesAreInOrder =
    (any_seq : AnySeq) (explained bodies : Bool) (texts : List (List ℕ)) (lines : List Line) → AreLines 1 texts lines
    → (before : List (List ℕ)) (first : List ℕ) (between : List (List ℕ)) (second : List ℕ) (after : List (List ℕ)) → texts_of any_seq explained bodies lines ≡ before ++ first ∷ (between ++ second ∷ after) → IsBefore first second

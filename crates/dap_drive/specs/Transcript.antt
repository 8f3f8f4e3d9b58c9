-- A transcript: a line for each message that was written. The format is this profile's own.
use Rattle.std.specs.Prelude.{◌≡◌, ℕ, List, [], ◌∷◌, ◌++◌, false, codes, Vec}
use Rattle.std.specs.List.{flat_map}
use Rattle.std.specs.Str.Lines.{lines}
use Rattle.dap_envelope.specs.Canon.{canon}
use Rattle.dap_check.specs.Legal.{IsVerdict}
use Rattle.dap_check.specs.Transcript.{AreLines}
use Rattle.dap_check.specs.declared.line.Line.{Line}
use Rattle.dap_check.specs.declared.line.Side.{Side}
use Rattle.dap_check.specs.declared.line.Side.TheVariants.{Client, Adapter}
use Rattle.dap_check.specs.declared.rule.AnySeq.TheVariants.{OfNone}
use Rattle.dap_check.specs.declared.rule.Checked.{Checked}
use Rattle.dap_check.specs.declared.rule.Checked.TheVariants.{Legal}
use Rattle.dap_world.specs.Transcripts.{said_of, KeepsRules}
use Rattle.dap_world.specs.World.{Said}

abbrev pub mark_of : Side → List ℕ
mark_of Client = codes "> "
mark_of Adapter = codes "< "

-- the line of a body that a side wrote
abbrev pub line_of : Side → List ℕ → List ℕ
line_of side body = mark_of side ++ body ++ 10 ∷ []

-- the lines of all that was written, in order, each message as its canonical text
abbrev pub text_of : List Said → List ℕ
text_of said = flat_map (λ m. line_of m.side (canon m.message)) said

-- what the checker reads of a transcript is what was written, and it keeps the six rules that are not on references (for that one see `legal`)
pub record IsReadAs (transcript : List ℕ) (said : List Said) : Type 0 where
  pub all : List Line
  pub are : AreLines 1 (lines transcript) all
  pub said_is : said_of all ≡ said
  pub rules : KeepsRules all

-- `check` of it answers `Legal`: it is lines, and none of them breaks a rule, that of references among them
pub record IsLegalText (transcript : List ℕ) : Type 0 where
  pub all : List Line
  pub are : AreLines 1 (lines transcript) all
  pub legal : IsVerdict OfNone all Legal

abbrev pub IsLegalTranscript : {A : Type 0} → Vec ℕ A → Type 0
IsLegalTranscript transcript = IsLegalText transcript.items

-- what `check` says of it, where all numbers are tested
pub record IsVerdictOn (transcript : List ℕ) (checked : Checked) : Type 0 where
  pub all : List Line
  pub are : AreLines 1 (lines transcript) all
  pub verdict : IsVerdict OfNone all checked

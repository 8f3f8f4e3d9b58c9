-- What is found of a transcript, as a caller in C sees it.
use Rattle.std.specs.Prelude.{◌≡◌, ◌≢◌, ◌⊎◌, ℕ, ◌<◌, ◌==◌, List, ◌∷◌, ◌++◌, length, drop, false, if◌then◌else◌, Option, Some, None, option_map}
use Rattle.std.specs.List.{list_any}
use Rattle.std.specs.Str.Lines.{lines}
use Rattle.dap_check.specs.Legal.{IsVerdict, number_of}
use Rattle.dap_check.specs.Transcript.{AreLines, FirstRefused, IsRefusedIn}
use Rattle.dap_check.specs.declared.checking.CheckFault.{CheckFault}
use Rattle.dap_check.specs.declared.checking.CheckFault.TheVariants.{BadLine, Body, OutOfMemory}
use Rattle.dap_check.specs.declared.line.Line.{Line}
use Rattle.dap_check.specs.declared.rule.AnySeq.{AnySeq}
use Rattle.dap_check.specs.declared.rule.AnySeq.TheVariants.{OfNone, OfClient, OfAdapter, OfBoth}
use Rattle.dap_check.specs.declared.rule.Checked.{Checked}
use Rattle.dap_check.specs.declared.rule.Checked.TheVariants.{Legal, Finding}
use Rattle.dap_check.specs.declared.rule.Rule.{Rule}
use Rattle.dap_check.specs.declared.rule.Rule.TheVariants.{Seq, Answer, FirstRequest, Initialized, Gate, Reference, Disconnect}
use Rattle.dap_explain.specs.Reasons.{reason_of}
use Rattle.dap_explain.specs.Sentences.{sentence_of}
use Rattle.dap_c.specs.declared.check.YtVerdict.{YtVerdict}

-- whose numbers are not tested, by a number
abbrev pub any_of : ℕ → Option AnySeq
any_of n = if n == 0 then Some OfNone else (if n == 1 then Some OfClient else (if n == 2 then Some OfAdapter else (if n == 3 then Some OfBoth else None)))

-- a rule, by its number
abbrev pub rule_of : ℕ → Option Rule
rule_of n = if n == 1 then Some Seq else (if n == 2 then Some Answer else (if n == 3 then Some FirstRequest else (if n == 4 then Some Initialized else (if n == 5 then Some Gate else (if n == 6 then Some Reference else (if n == 7 then Some Disconnect else None))))))

-- this code and this verdict are told of a transcript
abbrev pub TellsChecked : Checked → ℕ → YtVerdict → Type 0
TellsChecked Legal code v = (code ≡ 0) × (v.line ≡ 0) × (v.rule ≡ 0)
TellsChecked (Finding line rule) code v = (code ≡ 2) × (v.line ≡ line) × (v.rule ≡ number_of rule)

-- why a text is no transcript, as a code
abbrev pub fault_code : CheckFault → ℕ
fault_code (BadLine line) = 41
fault_code (Body line cause) = 42
fault_code OutOfMemory = 104

-- and the line
abbrev pub fault_line : CheckFault → ℕ
fault_line (BadLine line) = line
fault_line (Body line cause) = line
fault_line OutOfMemory = 0

-- this code and this verdict are told of a text that is no transcript
pub record TellsRefused (fault : CheckFault) (code : ℕ) (v : YtVerdict) : Type 0 where
  pub code_is : code ≡ fault_code fault
  pub line : v.line ≡ fault_line fault

-- a line is of neither side, or no message, as a code
abbrev pub IsCodeOfLine : ℕ → Type 0
IsCodeOfLine code = (code ≡ 41) ⊎ (code ≡ 42)

-- a text, or none, is put into a buffer with this code, where there is room for it
abbrev pub PutsIfAny : Option (List ℕ) → ℕ → ℕ → List ℕ → List ℕ → Type 0
PutsIfAny None code size old new = (code ≡ 106) × (new ≡ old)
PutsIfAny (Some text) code size old new = (size ≡ length text) × (code ≡ 0 → new ≡ text ++ drop (length text) old) × (code ≡ 105 → (length old < length text) × (new ≡ old)) × ((code ≡ 105 → ⊥) → code ≡ 0)

-- with the code 0 the text is a transcript that keeps the rules
abbrev pub FindsNone : List ℕ → ℕ → AnySeq → Type 0
FindsNone text code any = code ≡ 0 → (transcript : List Line) × AreLines 1 (lines text) transcript × IsVerdict any transcript Legal

-- with the code 2 it is one that does not, as is told
abbrev pub FindsLine : List ℕ → ℕ → YtVerdict → AnySeq → Type 0
FindsLine text code v any =
    code ≡ 2 → (transcript : List Line) × (checked : Checked) × AreLines 1 (lines text) transcript × IsVerdict any transcript checked × TellsChecked checked code v

-- with another one it is none, as is told
abbrev pub RefusesText : List ℕ → ℕ → YtVerdict → AnySeq → Type 0
RefusesText text code v any =
    (code ≡ 0 → ⊥) → (code ≡ 2 → ⊥) → (fault : CheckFault) × FirstRefused (lines text) fault × (code ≡ fault_code fault) × (v.line ≡ fault_line fault)

-- and the other way: the verdict on a transcript is told, unless memory is refused
abbrev pub TellsVerdict : List ℕ → ℕ → YtVerdict → AnySeq → Type 0
TellsVerdict text code v any =
    (transcript : List Line) (checked : Checked) → AreLines 1 (lines text) transcript → IsVerdict any transcript checked → TellsChecked checked code v ⊎ (code ≡ 104)

-- and why a text is none
abbrev pub TellsFault : List ℕ → ℕ → YtVerdict → Type 0
TellsFault text code v = (fault : CheckFault) → FirstRefused (lines text) fault → fault ≢ OutOfMemory → TellsRefused fault code v ⊎ (code ≡ 104)

-- of a line with this number and a rule: the sentence is put that says why it breaks the rule, if it does
abbrev pub Explains : List ℕ → ℕ → ℕ → ℕ → ℕ → List ℕ → List ℕ → Type 0
Explains text number rule code size old new =
    (earlier : List Line) (l : Line) (later : List Line) (r : Rule) → rule_of rule ≡ Some r → AreLines 1 (lines text) (earlier ++ l ∷ later) → l.number ≡ number →
    PutsIfAny (option_map sentence_of (reason_of r earlier l)) code size old new ⊎ (code ≡ 104)

-- where no line has this number, none is put
abbrev pub ExplainsNone : List ℕ → ℕ → ℕ → ℕ → ℕ → List ℕ → List ℕ → Type 0
ExplainsNone text number rule code size old new =
    (transcript : List Line) (r : Rule) → rule_of rule ≡ Some r → AreLines 1 (lines text) transcript → list_any (λ l. l.number == number) transcript ≡ false →
    PutsIfAny None code size old new ⊎ (code ≡ 104)

-- the code is that of a fault in the text
abbrev pub IsRefusedWith : List ℕ → ℕ → Type 0
IsRefusedWith text code = (fault : CheckFault) × IsRefusedIn (lines text) fault × (code ≡ fault_code fault)

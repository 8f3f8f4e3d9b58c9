-- How a text is cut into the lines of a transcript. That a transcript is such a text is this profile's choice; what a body
-- is stands in `Meaning` and `Refusals` of `dap_message`.
use Rattle.std.specs.Prelude.{◌≡◌, ◌≢◌, ◌⊎◌, ℕ, ◌+◌, ◌<◌, ◌==◌, IsTrue, Result, Err, List, [], ◌∷◌, ◌++◌, length, take, drop, codes, bytes_eq, if◌then◌else◌, Option, Some, None}
use Rattle.std.specs.List.{list_any}
use Rattle.std.specs.Str.Lines.{lines}
use Rattle.dap_envelope.specs.Meaning.{Msg}
use Rattle.dap_envelope.specs.Refusals.{Bad}
use Rattle.dap_check.specs.declared.checking.CheckFault.{CheckFault}
use Rattle.dap_check.specs.declared.checking.CheckFault.TheVariants.{BadLine, Body, OutOfMemory}
use Rattle.dap_check.specs.declared.line.Line.{Line}
use Rattle.dap_check.specs.declared.line.Side.{Side}
use Rattle.dap_check.specs.declared.line.Side.TheVariants.{Client, Adapter}

-- whose message a line has, by its first two bytes
abbrev pub side_of : List ℕ → Option Side
side_of text = if bytes_eq (take 2 text) (codes "> ") then Some Client else (if bytes_eq (take 2 text) (codes "< ") then Some Adapter else None)

-- the line of this number and text is this one
pub record IsLine (number : ℕ) (text : List ℕ) (line : Line) : Type 0 where
  pub numbered : line.number ≡ number
  pub side : side_of text ≡ Some line.side
  pub message : Msg (drop 2 text) line.message

-- texts, counted from this number, that have these lines: one for each text that has bytes, in order
abbrev pub AreLines : ℕ → List (List ℕ) → List Line → Type 0
AreLines number [] [] = Unit {0}
AreLines number [] (line ∷ lines) = ⊥
AreLines number ([] ∷ texts) lines = AreLines (number + 1) texts lines
AreLines number ((byte ∷ bytes) ∷ texts) [] = ⊥
AreLines number ((byte ∷ bytes) ∷ texts) (line ∷ lines) = IsLine number (byte ∷ bytes) line × AreLines (number + 1) texts lines

-- what a fault says of the text of this number
abbrev pub Refuses : ℕ → List ℕ → CheckFault → Type 0
Refuses number text (BadLine line) = (side_of text ≡ None) × (line ≡ number)
Refuses number text (Body line cause) = ((side : Side) × (side_of text ≡ Some side)) × Bad (drop 2 text) cause × (line ≡ number)
Refuses number text OutOfMemory = Unit {0}

-- the next text, where so many were taken, has bytes, and is refused
abbrev pub RefusesNext : ℕ → List ℕ → CheckFault → Type 0
RefusesNext taken text fault = Refuses (taken + 1) text fault × (0 < length text)

-- a text that has bytes is refused, counted from 1, and none before it
pub record FirstRefused (texts : List (List ℕ)) (fault : CheckFault) : Type 0 where
  pub before : List (List ℕ)
  pub text : List ℕ
  pub after : List (List ℕ)
  pub split : texts ≡ before ++ text ∷ after
  pub lines : List Line
  pub accepted : AreLines 1 before lines
  pub has_bytes : 0 < length text
  pub refuses : Refuses (length before + 1) text fault

-- some text that has bytes is refused, counted from 1
pub record IsRefusedIn (texts : List (List ℕ)) (fault : CheckFault) : Type 0 where
  pub before : List (List ℕ)
  pub text : List ℕ
  pub after : List (List ℕ)
  pub split : texts ≡ before ++ text ∷ after
  pub has_bytes : 0 < length text
  pub refuses : Refuses (length before + 1) text fault

-- ---- what is answered of texts

-- the answer is this one, or memory is refused
abbrev pub IsOrOutOfMemory : {T : Type 0} → Result T CheckFault → Result T CheckFault → Type 0
IsOrOutOfMemory due result = (result ≡ due) ⊎ (result ≡ Err OutOfMemory)

-- the text that is refused first is the answer
abbrev pub GivesFirstRefused : {T : Type 0} → List (List ℕ) → Result T CheckFault → Type 0
GivesFirstRefused texts result = (fault : CheckFault) → FirstRefused texts fault → fault ≢ OutOfMemory → IsOrOutOfMemory (Err fault) result

-- memory is refused, or a text
abbrev pub IsRefusal : List (List ℕ) → CheckFault → Type 0
IsRefusal texts fault = (fault ≡ OutOfMemory) ⊎ FirstRefused texts fault

-- ---- the first line of a text

-- where the text has a line feed, its first line and the rest are these whatever follows it
abbrev pub StaysFirst : List ℕ → List ℕ → List ℕ → Type 0
StaysFirst text first rest = IsTrue (list_any (λ byte. byte == 10) text) → (more : List ℕ) → lines (text ++ more) ≡ first ∷ lines (rest ++ more)

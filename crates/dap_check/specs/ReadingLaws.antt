-- That a text is read in one way, and how a transcript grows. What a line is stands in `Transcript`.
use Rattle.std.specs.Prelude.{◌≡◌, ◌≢◌, ◌⊎◌, ℕ, ◌+◌, ◌<◌, List, [], ◌∷◌, ◌++◌, length}
use Rattle.dap_check.specs.Transcript.{IsLine, AreLines, Refuses, FirstRefused}
use Rattle.dap_check.specs.declared.checking.CheckFault.{CheckFault}
use Rattle.dap_check.specs.declared.checking.CheckFault.TheVariants.{OutOfMemory}
use Rattle.dap_check.specs.declared.line.Line.{Line}

-- a text has one line at most, and none where it is refused for what it is
pub record TextsHaveOneLine : Type 0 where
  pub one : (number : ℕ) (text : List ℕ) (line other : Line) → IsLine number text line → IsLine number text other → line ≡ other
  pub none : (number : ℕ) (text : List ℕ) (fault : CheckFault) (line : Line) → Refuses number text fault → fault ≢ OutOfMemory → IsLine number text line → ⊥

-- texts have one transcript at most
abbrev pub TextsHaveOneTranscript : Type 0
TextsHaveOneTranscript = (number : ℕ) (texts : List (List ℕ)) (lines others : List Line) → AreLines number texts lines → AreLines number texts others → lines ≡ others

-- texts are refused at one place for one cause, and nowhere where they have a transcript; but for memory
pub record TextsHaveOneFault : Type 0 where
  pub one : (texts : List (List ℕ)) (told fault : CheckFault) → FirstRefused texts told → FirstRefused texts fault → fault ≢ OutOfMemory → (told ≡ fault) ⊎ (told ≡ OutOfMemory)
  pub none : (texts : List (List ℕ)) (lines : List Line) (fault : CheckFault) → AreLines 1 texts lines → FirstRefused texts fault → fault ≡ OutOfMemory

-- the texts before have these lines
pub record TranscriptsGrow : Type 0 where
  -- with a text without bytes they have the same
  pub skipped : (number : ℕ) (before : List (List ℕ)) (lines : List Line) → AreLines number before lines → AreLines number (before ++ [] ∷ []) lines
  -- with one that is a line they have this one more
  pub more : (number : ℕ) (before : List (List ℕ)) (lines : List Line) (text : List ℕ) (line : Line) → AreLines number before lines → 0 < length text → IsLine (number + length before) text line → AreLines number (before ++ text ∷ []) (lines ++ line ∷ [])
  -- and a text that has bytes, among texts that have lines, has a line
  pub there : (number : ℕ) (before : List (List ℕ)) (text : List ℕ) (after : List (List ℕ)) (lines : List Line) → AreLines number (before ++ text ∷ after) lines → 0 < length text → (line : Line) × IsLine (number + length before) text line

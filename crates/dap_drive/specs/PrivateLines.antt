-- The code's words for a reader that tells where messages end. Only private clauses cite these.
use Rattle.std.specs.Prelude.{◌≡◌, ℕ, List, [], ◌∷◌, ◌++◌}
use Rattle.std.specs.List.{flat_map}
use Rattle.dap_frame.specs.Intake.{Intake, IsUnderWay, StandsFor as StandsForStream}
use Rattle.dap_frame.specs.Settings.{Settings, AreInRange, bounds_of}
use Rattle.dap_check.specs.declared.line.Side.{Side}
use Rattle.dap_drive.specs.PrivateFrames.{AreFrames}
use Rattle.dap_drive.specs.Transcript.{line_of}
use Rattle.dap_drive.specs.declared.writing.Unwritten.{Unwritten}
use Rattle.dap_drive.specs.declared.writing.Unwritten.TheVariants as unwritten

-- the lines of the bodies that a side wrote
abbrev pub lines_of : Side → List (List ℕ) → List ℕ
lines_of side bodies = flat_map (line_of side) bodies

-- whole frames came, and nothing after them
pub record IsBetween (limits : Settings) (i : Intake) : Type 0 where
  pub bounds : i.bounds ≡ bounds_of limits
  pub under_way : IsUnderWay i
  pub came : List ℕ
  pub bodies : List (List ℕ)
  pub stands : StandsForStream i came bodies []

-- the lines of these bytes are written
pub record WritesLines (limits : Settings) (new : Intake) (side : Side) (bytes before after : List ℕ) : Type 0 where
  pub bodies : List (List ℕ)
  pub frames : AreFrames limits bodies bytes
  pub lines : after ≡ before ++ lines_of side bodies
  pub between : IsBetween limits new

-- the line of the body of one frame is written
pub record WritesLine (old new : Intake) (side : Side) (frame before after : List ℕ) : Type 0 where
  pub body : List ℕ
  pub line : after ≡ before ++ lines_of side (body ∷ [])
  pub bounds : new.bounds ≡ old.bounds
  pub stands : (s : List ℕ) (xs : List (List ℕ)) (rest : List ℕ) → StandsForStream old s xs rest → StandsForStream new (s ++ frame) (xs ++ body ∷ []) []

-- why the lines of bytes are not written: they are no frames, or memory was refused
abbrev pub IsUnwritten : Unwritten → Intake → List ℕ → Type 0
IsUnwritten unwritten.Frames old bytes = (limits : Settings) (bodies : List (List ℕ)) → AreInRange limits → IsBetween limits old → AreFrames limits bodies bytes → ⊥
IsUnwritten unwritten.OutOfMemory old bytes = Unit {0}

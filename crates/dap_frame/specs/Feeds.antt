-- What one call of `feed` does with a piece of the stream, where a frame is under way, and where none is.
use Rattle.std.specs.Prelude.{◌≡◌, ℕ, ◌≤◌, ◌<◌, List, [], ◌∷◌, ◌++◌, length, take, Bool, false, IsTrue, Result, Ok, Err}
use Rattle.dap_frame.specs.declared.frames.Fed.{Fed}
use Rattle.dap_frame.specs.declared.frames.FrameFault.{FrameFault}
use Rattle.dap_frame.specs.declared.Refusal.{Refusal}
use Rattle.dap_frame.specs.Intake.{Intake, IsUnderWay, IsReady, IsClosed, StandsFor, OfEachStream}

-- the first n bytes of the piece make the frame whole: its body is the next of the stream
pub record Completes (old new : Intake) (piece : List ℕ) (n : ℕ) : Type 0 where
  pub bounds : new.bounds ≡ old.bounds
  pub within : n ≤ length piece
  pub ready : IsReady new
  pub stands : OfEachStream old (λ s xs rest. StandsFor new (s ++ take n piece) (xs ++ new.held ∷ []) [])

-- all n bytes of the piece go behind the rest, and the frame is still under way
pub record Gathers (old new : Intake) (piece : List ℕ) (n : ℕ) : Type 0 where
  pub bounds : new.bounds ≡ old.bounds
  pub all : n ≡ length piece
  pub under_way : IsUnderWay new
  pub stands : OfEachStream old (λ s xs rest. StandsFor new (s ++ piece) xs (rest ++ piece))

-- the first bytes of the piece, some n of them, go behind the rest, and the reader is closed with this fault: just as many
-- as make it the verdict on the rest
pub record Closes (old new : Intake) (piece : List ℕ) (fault : FrameFault) : Type 0 where
  pub bounds : new.bounds ≡ old.bounds
  pub closed : IsClosed new fault.cause
  pub offset : fault.offset ≡ new.start
  pub n : ℕ
  pub within : n ≤ length piece
  pub stands : OfEachStream old (λ s xs rest. StandsFor new (s ++ take n piece) xs (rest ++ take n piece))

-- ---- which of them, by what a call answers

abbrev pub CompletesIfReady : Intake → Intake → List ℕ → Fed → Type 0
CompletesIfReady old new piece fed = IsTrue fed.ready → IsUnderWay old → Completes old new piece fed.used

abbrev pub GathersUnlessReady : Intake → Intake → List ℕ → Fed → Type 0
GathersUnlessReady old new piece fed = fed.ready ≡ false → IsUnderWay old → Gathers old new piece fed.used

abbrev pub ClosesIfUnderWay : Intake → Intake → List ℕ → FrameFault → Type 0
ClosesIfUnderWay old new piece fault = IsUnderWay old → Closes old new piece fault

-- of a piece with bytes some are used
abbrev pub UsesSome : Intake → List ℕ → Fed → Type 0
UsesSome old piece fed = IsUnderWay old → 0 < length piece → 0 < fed.used

-- ---- where no frame is under way

-- no byte is used
abbrev pub uses_none : Bool → Result Fed FrameFault
uses_none ready = Ok (record { used = 0; ready = ready })

-- a refusal that came stays, and is answered again
abbrev pub RefusesAgain : Intake → Intake → Result Fed FrameFault → Type 0
RefusesAgain old new result = (cause : Refusal) → IsClosed old cause → (new ≡ old) × (result ≡ Err (record { cause = cause; offset = old.start }))

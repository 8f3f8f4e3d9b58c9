-- What a piece of the stream comes to at either end: a body whole, a framing or a body refused, or a want of memory.
use Rattle.std.specs.Prelude.{◌≡◌, ℕ, ◌<◌, List, length}
use Rattle.dap_frame.specs.Feeds.{Completes, Closes}
use Rattle.dap_frame.specs.Intake.{Intake}
use Rattle.dap_frame.specs.declared.frames.FrameFault.{FrameFault}
use Rattle.dap_envelope.specs.Refusals.{Bad}
use Rattle.dap_envelope.specs.declared.fault.BodyRefusal.{BodyRefusal}

-- a body is whole, after the first n bytes of the piece
pub record Whole (old : Intake) (piece : List ℕ) (n : ℕ) : Type 0 where
  pub ready : Intake
  pub completes : Completes old ready piece n

-- the framing of the piece is refused, after some of its first bytes
pub record FrameClosed (old : Intake) (piece : List ℕ) (fault : FrameFault) : Type 0 where
  pub some : 0 < length piece
  pub closed : Intake
  pub closes : Closes old closed piece fault

-- a body came whole that is no message
pub record BodyRefused (old : Intake) (piece : List ℕ) (cause : BodyRefusal) (offset : ℕ) : Type 0 where
  pub n : ℕ
  pub whole : Whole old piece n
  pub bad : Bad whole.ready.held cause
  pub starts : offset ≡ whole.ready.start

-- memory is asked for once a body is whole, and never before
abbrev pub NeedsMemory : Intake → List ℕ → Type 0
NeedsMemory old piece = (n : ℕ) × Whole old piece n

-- The frames of a file that has a body a line. That tools read such files is this profile's choice; a file's lines are
-- those of `lines`, and the frames are those of Overview, "Base Protocol".
use Rattle.std.specs.Prelude.{◌≡◌, ◌≢◌, ◌⊎◌, Result, Err, ℕ, ◌+◌, ◌<◌, ◌≤◌, not, ◌==◌, List, ◌∷◌, ◌++◌, length, filter, flat_map, All}
use Rattle.dap_frame.specs.Settings.{Settings}
use Rattle.dap_frame.specs.Written.{frame_of}
use Rattle.dap_envelope.specs.Meaning.{Msg}
use Rattle.dap_envelope.specs.Refusals.{Bad}
use Rattle.dap_envelope.specs.declared.message.Message.{Message}
use Rattle.dap_stream.specs.declared.wrapping.WrapFault.{WrapFault}
use Rattle.dap_stream.specs.declared.wrapping.WrapFault.TheVariants.{Body, BodyTooLong, OutOfMemory}

-- the lines that have bytes
abbrev pub bodies : List (List ℕ) → List (List ℕ)
bodies texts = filter (λ text. not (length text == 0)) texts

-- their frames, in order
abbrev pub frames_of_bodies : List (List ℕ) → List ℕ
frames_of_bodies texts = flat_map frame_of (bodies texts)

-- the line is a message and within the limit of a body
pub record IsBody (limits : Settings) (text : List ℕ) : Type 0 where
  pub message : Message
  pub message_is : Msg text message
  pub within : length text ≤ limits.body

-- each line that has bytes is so
abbrev pub AreBodies : Settings → List (List ℕ) → Type 0
AreBodies limits texts = All (IsBody limits) (bodies texts)

-- the line is a message, and longer than the limit of a body
pub record IsTooLong (limits : Settings) (text : List ℕ) : Type 0 where
  pub message : Message
  pub message_is : Msg text message
  pub long : limits.body < length text

-- what a fault says of the line of this number
abbrev pub Refuses : Settings → List ℕ → ℕ → WrapFault → Type 0
Refuses limits text number (Body cause line) = Bad text cause × (line ≡ number)
Refuses limits text number (BodyTooLong line) = IsTooLong limits text × (line ≡ number)
Refuses limits text number OutOfMemory = Unit {0}

-- a line that has bytes is refused, counted from 1, and no line before it
pub record FirstRefused (limits : Settings) (texts : List (List ℕ)) (fault : WrapFault) : Type 0 where
  pub before : List (List ℕ)
  pub text : List ℕ
  pub after : List (List ℕ)
  pub split : texts ≡ before ++ text ∷ after
  pub accepted : AreBodies limits before
  pub has_bytes : 0 < length text
  pub refuses : Refuses limits text (length before + 1) fault

-- where a line is refused, and not for memory, the first such one is told, unless memory runs out
abbrev pub TellsRefusal : {A : Type 0} → Settings → List (List ℕ) → Result A WrapFault → Type 0
TellsRefusal limits texts result = (fault : WrapFault) → FirstRefused limits texts fault → fault ≢ OutOfMemory → (result ≡ Err fault) ⊎ (result ≡ Err OutOfMemory)

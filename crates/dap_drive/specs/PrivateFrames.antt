-- Bytes that are whole frames. Overview, "Base Protocol".
use Rattle.std.specs.Prelude.{ℕ, List, [], map}
use Rattle.dap_frame.specs.Settings.{Settings, bounds_of}
use Rattle.dap_frame.specs.Stream.{FramesThen}
use Rattle.dap_envelope.specs.Canon.{canon}
use Rattle.dap_envelope.specs.declared.message.Message.{Message}

-- the bytes are just the frames of these bodies
abbrev pub AreFrames : Settings → List (List ℕ) → List ℕ → Type 0
AreFrames limits bodies bytes = FramesThen (bounds_of limits) bodies [] bytes

-- the bytes are just the frames of these messages
abbrev pub AreFramesOf : Settings → List Message → List ℕ → Type 0
AreFramesOf limits messages bytes = AreFrames limits (map canon messages) bytes

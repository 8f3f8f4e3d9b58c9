-- What came to an end: the bytes that it used, and the messages that their whole frames are.
use Rattle.std.specs.Prelude.{ℕ, List, [], ◌∷◌}
use Rattle.dap_frame.specs.Intake.{Intake, IsUnderWay, StandsFor as StandsForStream}
use Rattle.dap_envelope.specs.Meaning.{Msg}
use Rattle.dap_envelope.specs.declared.message.Message.{Message}
use Rattle.dap_history.specs.History.{Entry, ins_of}

-- the bodies are these messages, one by one
abbrev pub AreRead : List (List ℕ) → List Message → Type 0
AreRead [] [] = Unit {0}
AreRead [] (m ∷ ms) = ⊥
AreRead (x ∷ xs) [] = ⊥
AreRead (x ∷ xs) (m ∷ ms) = Msg x m × AreRead xs ms

-- a frame is under way after these bytes, and the whole ones are the messages that came
pub record Received (i : Intake) (s : List ℕ) (h : List Entry) : Type 0 where
  pub under_way : IsUnderWay i
  pub bodies : List (List ℕ)
  pub rest : List ℕ
  pub stream : StandsForStream i s bodies rest
  pub read : AreRead bodies (ins_of h)

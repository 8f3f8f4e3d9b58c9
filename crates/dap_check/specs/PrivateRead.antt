-- A line as it was read from a body. Only private clauses and proofs cite this file.
use Rattle.std.specs.Prelude.{◌≡◌, ℕ, List, None, IsTrue}
use Rattle.dap_command.specs.declared.gathering.GatheredReferences.{GatheredReferences}
use Rattle.dap_envelope.specs.Meaning.{Msg}
use Rattle.dap_envelope.specs.declared.message.Message.{Message}
use Rattle.dap_shape.specs.Faults.{fault_in}
use Rattle.dap_check.specs.PrivateBare.{IsReadAs}
use Rattle.dap_check.specs.declared.line.Side.{Side}
use Rattle.dap_check.specs.declared.reading.LineRead.{LineRead}

-- it is the line of this message
pub record IsReadOf (number : ℕ) (side : Side) (m : Message) (given : GatheredReferences) (found : LineRead) : Type 0 where
  pub like : IsReadAs found.form given found.line (record { number = number; side = side; message = m })
  pub sound : IsTrue found.is_sound → fault_in m.kind ≡ None

-- of the one that the body is
pub record IsReadFrom (number : ℕ) (side : Side) (body : List ℕ) (given : GatheredReferences) (found : LineRead) : Type 0 where
  pub message : Message
  pub means : Msg body message
  pub is_of : IsReadOf number side message given found

-- What is read of a body in one pass: the heading of the message, and whether it was seen to have no fault.
use Rattle.std.specs.Prelude.{◌≡◌, ℕ, List, Bool, IsTrue, None}
use Rattle.dap_command.specs.declared.gathering.GatheredReferences.{GatheredReferences}
use Rattle.dap_envelope.specs.Heading.{IsHeadingOf}
use Rattle.dap_envelope.specs.Meaning.{Msg}
use Rattle.dap_envelope.specs.ResponseReferences.{AreGivenIn}
use Rattle.dap_envelope.specs.declared.heading.Heading.{Heading}
use Rattle.dap_envelope.specs.declared.message.Message.{Message}
use Rattle.dap_shape.specs.Faults.{fault_in}

-- with what the body of a response gives
abbrev pub IsHeadingWithShape : List ℕ → GatheredReferences → Heading × Bool → Type 0
IsHeadingWithShape body given read = (m : Message) × Msg body m × IsHeadingOf read.0 m × AreGivenIn given m.kind × (IsTrue read.1 → fault_in m.kind ≡ None)

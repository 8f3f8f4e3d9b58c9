use Rattle.dap_slot.proofs.Handles.{into_slot_meets}
use Rattle.dap_c.proofs.FramesHandles.{the_handle}
use Rattle.dap_c.specs.contracts.frames_handle.into_slot.Key.{name}
use Rattle.dap_c.proofs.frames_handle.into_slot.Statement.{statement}
use Rattle.dap_c.proofs.frames_handle.into_slot.Code as code

pub into_slot_spec : {M : Type 1} → statement M
into_slot_spec 𝓤 𝓛 𝓜 𝓡 wired = into_slot_meets the_handle 𝓤 𝓛 𝓜 𝓡 name (code.unfolded 𝓤 𝓛.H 𝓜 𝓡 wired)

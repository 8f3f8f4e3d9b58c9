-- The handle of a reader of frames, as the proofs of all handles take it.
use Rattle.std.proofs.Common.{refl}
use Rattle.dap_c.specs.declared.frames_handle.FramesHandle.{FramesHandle}
use Rattle.dap_c.specs.contracts.frames_handle.FramesHandle as handle
use Rattle.dap_frame.specs.contracts.frames.Frames as held
use Rattle.dap_slot.proofs.Handles.{Handle}

abbrev pub the_handle : Handle
the_handle = record {
  behind = held.the_row;
  name = handle.struct.name;
  D = FramesHandle;
  at = λ d. d.at;
  value = λ d. d.value;
  make = λ p o. record { at = p; value = o };
  at_made = λ p o. refl;
  value_made = λ p o. refl;
  made = λ d. refl;
  codes = handle.the_codes;
}

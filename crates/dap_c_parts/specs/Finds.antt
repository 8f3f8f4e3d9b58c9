-- What is found of a piece of a stream, where it did nothing.
use Rattle.std.specs.Prelude.{◌≡◌}
use Rattle.dap_c_parts.specs.declared.found.YtFound.{YtFound}

-- no byte was used, none is to be written, and no frame became whole
pub record FindsNothing (found : YtFound) : Type 0 where
  pub used : found.used ≡ 0
  pub bytes : found.bytes ≡ 0
  pub frame : found.frame ≡ 0

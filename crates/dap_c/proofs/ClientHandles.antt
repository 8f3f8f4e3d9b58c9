-- The handle of a client, as the proofs of all handles take it.
use Rattle.std.proofs.Common.{refl}
use Rattle.dap_c.specs.declared.client_handle.ClientHandle.{ClientHandle}
use Rattle.dap_c.specs.contracts.client_handle.ClientHandle as handle
use Rattle.dap_c.specs.contracts.held_client.HeldClient as held
use Rattle.dap_slot.proofs.Handles.{Handle}

abbrev pub the_handle : Handle
the_handle = record {
  behind = held.the_row;
  name = handle.struct.name;
  D = ClientHandle;
  at = λ d. d.at;
  value = λ d. d.value;
  make = λ p o. record { at = p; value = o };
  at_made = λ p o. refl;
  value_made = λ p o. refl;
  made = λ d. refl;
  codes = handle.the_codes;
}

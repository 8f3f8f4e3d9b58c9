-- The handle of an adapter, as the proofs of all handles take it.
use Rattle.std.proofs.Common.{refl}
use Rattle.dap_c_adapter.specs.declared.adapter_handle.AdapterHandle.{AdapterHandle}
use Rattle.dap_c_adapter.specs.contracts.adapter_handle.AdapterHandle as handle
use Rattle.dap_c_adapter.specs.contracts.held_adapter.HeldAdapter as held
use Rattle.dap_slot.proofs.Handles.{Handle}

abbrev pub the_handle : Handle
the_handle = record {
  behind = held.the_row;
  name = handle.struct.name;
  D = AdapterHandle;
  at = λ d. d.at;
  value = λ d. d.value;
  make = λ p o. record { at = p; value = o };
  at_made = λ p o. refl;
  value_made = λ p o. refl;
  made = λ d. refl;
  codes = handle.the_codes;
}

-- Why an event is not told where nothing but its size and the own numbers may stand against it.
use Rattle.std.specs.Prelude.{◌≡◌, ℕ, List, false, Option, Some}
use Rattle.serde_json.specs.Data.{Data}
use Rattle.dap_plan.specs.Emitting.{late_emit_faults, first_emit_fault}
use Rattle.dap_plan.specs.Session.{Session}
use Rattle.dap_plan.specs.declared.fault.EmitFault.{EmitFault}
use Rattle.dap_plan.specs.declared.fault.EmitFault.TheVariants.{OutOfMemory}

abbrev pub IsLate : EmitFault → List ℕ → Option Data → Session → Type 0
IsLate OutOfMemory name body s = Unit {0}
IsLate fault name body s = first_emit_fault late_emit_faults name body false s ≡ Some fault

-- Why a request is not asked where nothing but its size and the own numbers may stand against it.
use Rattle.std.specs.Prelude.{◌≡◌, ℕ, List, false, Option, Some}
use Rattle.serde_json.specs.Data.{Data}
use Rattle.dap_plan.specs.Asking.{late_ask_faults, first_ask_fault}
use Rattle.dap_plan.specs.Session.{Session}
use Rattle.dap_plan.specs.declared.fault.AskFault.{AskFault}
use Rattle.dap_plan.specs.declared.fault.AskFault.TheVariants.{OutOfMemory}

abbrev pub IsLate : AskFault → List ℕ → Option Data → Session → Type 0
IsLate OutOfMemory command arguments s = Unit {0}
IsLate fault command arguments s = first_ask_fault late_ask_faults command arguments false s ≡ Some fault

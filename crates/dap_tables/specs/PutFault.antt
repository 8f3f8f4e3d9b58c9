-- Why a request is not kept. Each of the two is this profile's choice.
use Rattle.dap_tables.specs.declared.entry.Entry.{Entry}
use Rattle.dap_tables.specs.declared.put_fault.PutFault.{PutFault}
use Rattle.dap_tables.specs.declared.put_fault.PutFault.TheVariants.{Repeated, Full}

-- the request that a fault hands back
abbrev pub refused_entry : PutFault → Entry
refused_entry (Repeated entry) = entry
refused_entry (Full entry) = entry

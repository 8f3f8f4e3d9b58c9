-- Requests that an end keeps, as a history has them.
use Rattle.std.specs.Prelude.{List, map}
use Rattle.dap_tables.specs.Outstanding.{Kept}
use Rattle.dap_tables.specs.declared.entry.Entry.{Entry}
use Rattle.dap_history.specs.History.{Asked}

abbrev pub asked_of : Entry → Asked
asked_of r = record { seq = r.seq; command = r.command; arguments = r.arguments }

abbrev pub asks : List Kept → List Asked
asks kept = map (λ k. asked_of k.entry) kept

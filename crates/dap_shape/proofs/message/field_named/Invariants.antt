use Rattle.std.proofs.Common.{◌≡◌, drop}
use Rattle.std.specs.Prelude.{map}
use Rattle.dap_shape.specs.Faults.{row_named}
use Rattle.dap_shape.specs.Seen.{entry_seen}
use Rattle.dap_shape.proofs.message.field_named.Given as goal

-- the entries that are left decide
abbrev pub invariant-loop-entry : goal.invariant-loop-entry
invariant-loop-entry l = row_named (map entry_seen (drop l.entry-index l.entries)) l.name ≡ row_named (map entry_seen l.entries) l.name

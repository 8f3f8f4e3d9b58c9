use Rattle.std.proofs.Common.{◌≡◌, ◌+◌, ◌++◌, drop}
use Rattle.dap_tables.specs.Breakpoints.{lines_with_ids}
use Rattle.dap_tables.proofs.breakpoints.numbered.Given as goal

-- what is numbered, and what is left to number
abbrev pub invariant-loop-line : goal.invariant-loop-line
invariant-loop-line l = record {
  so_far : l.set.items ++ lines_with_ids l.id (drop l.line-index l.lines) ≡ lines_with_ids l.fn.first l.lines;
  id : l.id ≡ l.first + l.line-index;
}

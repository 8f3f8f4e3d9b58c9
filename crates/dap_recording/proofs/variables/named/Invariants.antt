use Rattle.std.proofs.Common.{◌≡◌, drop}
use Rattle.dap_debuggee.specs.Laws.{variable_named}
use Rattle.dap_recording.proofs.variables.named.Given as goal

-- the variable stands in what is left
abbrev pub invariant-loop-variable : goal.invariant-loop-variable
invariant-loop-variable l = variable_named l.name (drop l.variable-index l.variables) ≡ variable_named l.name l.variables

use Rattle.std.proofs.Common.{◌≡◌, ◌++◌, drop, if◌then◌else◌}
use Rattle.dap_debuggee.specs.Laws.{with_assigned}
use Rattle.dap_recording.proofs.variables.with_assigned.Given as goal

-- the copy so far, and what is left of the variables
abbrev pub invariant-loop-variable : goal.invariant-loop-variable
invariant-loop-variable l =
    l.changed.items ++ (if l.is_set then drop l.variable-index l.variables else with_assigned l.name l.assigned (drop l.variable-index l.variables)) ≡ with_assigned l.name l.assigned l.variables

use Rattle.std.proofs.Common.{◌≡◌, map, take, option_map}
use Rattle.dap_debuggee.specs.declared.answers.Variable.{Variable}
use Rattle.dap_tables.specs.References.{holder_of}
use Rattle.dap_query.proofs.bodies.variables_named.Given as goal

-- of those so far
abbrev pub invariant-loop-told : goal.invariant-loop-told
invariant-loop-told l = l.named.items ≡ map (λ (x : Variable). option_map holder_of x.holder) (take l.told-index l.variables)

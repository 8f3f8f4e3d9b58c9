use Rattle.std.proofs.Common.{◌≡◌, drop, Some}
use Rattle.dap_live.specs.LiveShown.{children_in, variable_in}
use Rattle.dap_live.proofs.here.Here.variable_in.Given as goal

-- the variable stands in the scopes that are left
abbrev pub invariant-loop-scope : goal.invariant-loop-scope
invariant-loop-scope l = variable_in (λ holder. children_in (Some l.self) holder) l.name (drop l.scope-index l.scopes) ≡ variable_in (λ holder. children_in (Some l.self) holder) l.name l.scopes

use Rattle.std.proofs.Common.{◌≡◌, drop}
use Rattle.dap_replay.specs.Played.{value_in, variables_held}
use Rattle.dap_replay.proofs.recorded.Recorded.value_in.Given as goal

-- the variable stands in the scopes that are left
abbrev pub invariant-loop-scope : goal.invariant-loop-scope
invariant-loop-scope l = value_in (λ holder. variables_held l.self holder) l.name (drop l.scope-index l.scopes) ≡ value_in (λ holder. variables_held l.self holder) l.name l.scopes

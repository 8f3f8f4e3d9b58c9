use Rattle.std.proofs.Common.{◌≡◌, Some, map, take}
use Rattle.dap_debuggee.specs.declared.answers.Scope.{Scope}
use Rattle.dap_tables.specs.References.{holder_of}
use Rattle.dap_query.proofs.bodies.scopes_named.Given as goal

-- of those so far
abbrev pub invariant-loop-told : goal.invariant-loop-told
invariant-loop-told l = l.named.items ≡ map (λ (x : Scope). Some (holder_of x.holder)) (take l.told-index l.scopes)

use Rattle.std.proofs.Common.{◌≡◌, drop}
use Rattle.my_debugger.specs.ToyShown.{local_named}
use Rattle.my_debugger.proofs.queries.named.Given as goal

-- the variable is among what is left
abbrev pub invariant-loop-local : goal.invariant-loop-local
invariant-loop-local l = local_named l.name (drop l.local-index l.locals) ≡ local_named l.name l.locals

use Rattle.std.proofs.Common.{◌≡◌, take, map}
use Rattle.my_debugger.specs.ToyShown.{variable_of}
use Rattle.my_debugger.proofs.queries.variables.Given as goal

-- the variables so far are those of the locals so far
abbrev pub invariant-loop-local : goal.invariant-loop-local
invariant-loop-local l = l.variables.items ≡ map variable_of (take l.local-index l.locals)

use Rattle.std.proofs.Common.{◌≡◌, drop}
use Rattle.dap_query.specs.References.{intern_each}
use Rattle.dap_query.specs.QueryResults.{OnlyGives}
use Rattle.dap_query.proofs.GivenNumbers.{onto_all}
use Rattle.dap_query.proofs.queries.Queries.number_each.Given as goal

-- these numbers, and then those of the rest
abbrev pub invariant-loop-object : goal.invariant-loop-object
invariant-loop-object l = record {
  so_far : onto_all l.numbers.items (intern_each l.fn.self.limits (drop l.object-index l.objects) l.self.references) ≡ intern_each l.fn.self.limits l.objects l.fn.self.references;
  only : OnlyGives l.fn.self l.self;
}

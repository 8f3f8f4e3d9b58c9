use Rattle.std.proofs.Common.{ap, ◌∙◌, ℕ, List}
use Rattle.dap_tables.specs.Arrivals.{keys_of}
use Rattle.dap_tables.proofs.ArrivalLemmas.{emptied}
use Rattle.dap_tables.proofs.arrivals.Arrivals.open.Goals as goal

pub invariant_of-result : goal.invariant_of-result
invariant_of-result c = (emptied c.in_ok-ring.field-0.items c.in_ok-ring.ensures.next c.in_ok-ring.ensures.prev).1

pub returns-clause-empty : goal.returns-clause-empty
returns-clause-empty c =
    let links = c.in_ok-ring.field-0.items in
    ap (λ (n : ℕ). record { limit = n; keys = keys_of links 0 }) c.in_ok-ring.ensures.len
    ∙ ap (λ (ks : List ℕ). record { limit = c.args.limit; keys = ks }) (emptied links c.in_ok-ring.ensures.next c.in_ok-ring.ensures.prev).0

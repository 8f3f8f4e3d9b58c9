use Rattle.std.proofs.Common.{◌≡◌, ◌-◌, ap, ◌∙◌, ℕ, List, length, arith}
use Rattle.dap_tables.specs.Arrivals.{keys_of}
use Rattle.dap_tables.proofs.ArrivalLemmas.{emptied}
use Rattle.dap_tables.proofs.arrivals.Arrivals.clear.Goals as goal

pub invariant_of-self : goal.invariant_of-self
invariant_of-self c = (emptied c.close.new.links.items c.close.ensures.next c.close.ensures.prev).1

pub returns : goal.returns
returns c =
    let links = c.close.new.links.items in
    let long : length links ≡ length c.self.inside.links.items = omega arith in
    rw (← c.self.view_is) (ap (λ (n : ℕ). record { limit = n - 1; keys = keys_of links 0 }) long
    ∙ ap (λ (ks : List ℕ). record { limit = length c.self.inside.links.items - 1; keys = ks }) (emptied links c.close.ensures.next c.close.ensures.prev).0)

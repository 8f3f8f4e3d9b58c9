use Rattle.std.proofs.Common.{◌≡◌, ◌+◌, ◌-◌, ◌++◌, [], ◌∷◌, ap, ◌∙◌, arith, ℕ, List, length}
use Rattle.dap_tables.specs.Arrivals.{IsSoundRing, keys_of}
use Rattle.dap_tables.proofs.ArrivalLemmas.{last_within, not_last, pushed, length-keys_of}
use Rattle.dap_tables.proofs.arrivals.Arrivals.push.Goals as goal
use Rattle.dap_tables.proofs.arrivals.Arrivals.push.Goals.{After-splice}

pub splice-requires-clause-prev_in : goal.splice-requires-clause-prev_in
splice-requires-clause-prev_in c =
    let within = rw (← c.self.view_is) at c.requires.within in
    omega (arith, last_within c.self.inside.links.items c.self.inside.len c.self.invariant (omega arith))

pub splice-requires-clause-not_prev : goal.splice-requires-clause-not_prev
splice-requires-clause-not_prev c =
    not_last c.self.inside.links.items c.self.inside.len c.self.invariant c.args.key (rw (← c.self.view_is) at c.requires.new)

both : (c : After-splice) → (keys_of c.splice.new.links.items (c.self.inside.len + 1) ≡ keys_of c.self.inside.links.items c.self.inside.len ++ c.args.key ∷ []) × IsSoundRing c.splice.new.links.items (c.self.inside.len + 1)
both c =
    let within = rw (← c.self.view_is) at c.requires.within in
    let room = rw (← c.self.view_is) at c.requires.room in
    let count = length-keys_of c.self.inside.links.items c.self.inside.len in
    pushed c.self.inside.links.items c.splice.new.links.items c.self.inside.len c.self.invariant (omega arith) c.args.key (omega arith) (omega arith)
    (rw (← c.self.view_is) at c.requires.new) c.splice.ensures.splices

pub invariant_of-self : goal.invariant_of-self
invariant_of-self c = (both (goal.at.invariant_of-self c).After-splice).1

pub returns : goal.returns
returns c =
    let w = (goal.at.returns c).After-splice in
    let long : length w.splice.new.links.items ≡ length w.self.inside.links.items = omega arith in
    rw (← c.self.view_is) (ap (λ (n : ℕ). record { limit = n - 1; keys = keys_of w.splice.new.links.items (w.self.inside.len + 1) }) long
    ∙ ap (λ (ks : List ℕ). record { limit = length w.self.inside.links.items - 1; keys = ks }) (both w).0)

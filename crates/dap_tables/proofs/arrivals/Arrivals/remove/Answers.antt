use Rattle.std.proofs.Common.{◌≡◌, ◌-◌, ap, ◌∙◌, arith, ℕ, List, length}
use Rattle.dap_tables.specs.Arrivals.{IsSoundRing, keys_of, without_key}
use Rattle.dap_tables.proofs.ArrivalLemmas.{before_within, after_within, removed, some_key, length-keys_of}
use Rattle.dap_tables.proofs.arrivals.Arrivals.remove.Goals as goal
use Rattle.dap_tables.proofs.arrivals.Arrivals.remove.Goals.{After-skip}

pub overflow_add-key : goal.overflow_add-key
overflow_add-key c =
    let within = c.self.invariant.within c.args.key (rw (← c.self.view_is) at c.requires) in
    omega arith

pub skip-requires-clause-at_in : goal.skip-requires-clause-at_in
skip-requires-clause-at_in c =
    let within = c.self.invariant.within c.args.key (rw (← c.self.view_is) at c.requires) in
    omega arith

pub skip-requires-clause-prev_in : goal.skip-requires-clause-prev_in
skip-requires-clause-prev_in c =
    omega (arith, before_within c.self.inside.links.items c.self.inside.len c.self.invariant c.args.key (rw (← c.self.view_is) at c.requires))

pub skip-requires-clause-next_in : goal.skip-requires-clause-next_in
skip-requires-clause-next_in c =
    omega (arith, after_within c.self.inside.links.items c.self.inside.len c.self.invariant c.args.key (rw (← c.self.view_is) at c.requires))

pub overflow_sub-self : goal.overflow_sub-self
overflow_sub-self c = some_key c.self.inside.links.items c.self.inside.len c.self.invariant c.args.key (rw (← c.self.view_is) at c.requires)

both : (c : After-skip) → (keys_of c.skip.new.links.items (c.self.inside.len - 1) ≡ without_key c.args.key (keys_of c.self.inside.links.items c.self.inside.len)) × IsSoundRing c.skip.new.links.items (c.self.inside.len - 1)
both c =
    removed c.self.inside.links.items c.skip.new.links.items c.self.inside.len c.self.invariant (omega arith) c.args.key
    (rw (← c.self.view_is) at c.requires) c.skip.ensures.skips

pub invariant_of-self : goal.invariant_of-self
invariant_of-self c = (both (goal.at.invariant_of-self c).After-skip).1

pub returns-clause-shorter : goal.returns-clause-shorter
returns-clause-shorter c =
    let w = (goal.at.returns-clause-shorter c).After-skip in
    let some = some_key w.self.inside.links.items w.self.inside.len w.self.invariant w.args.key (rw (← w.self.view_is) at w.requires) in
    let now = length-keys_of w.skip.new.links.items (w.self.inside.len - 1) in
    let before = length-keys_of w.self.inside.links.items w.self.inside.len in
    rw (← c.self.view_is) (omega arith)

pub returns-clause-others : goal.returns-clause-others
returns-clause-others c =
    let w = (goal.at.returns-clause-others c).After-skip in
    let long : length w.skip.new.links.items ≡ length w.self.inside.links.items = omega arith in
    rw (← c.self.view_is) (ap (λ (n : ℕ). record { limit = n - 1; keys = keys_of w.skip.new.links.items (w.self.inside.len - 1) }) long
    ∙ ap (λ (ks : List ℕ). record { limit = length w.self.inside.links.items - 1; keys = ks }) (both w).0)

use Rattle.std.proofs.Common.{◌≡◌, ◌≤◌, ap, ◌∙◌, sym, ℕ, List, Option, IfSome, subst, length, get_or}
use Rattle.dap_tables.specs.declared.arrivals.Link.{Link}
use Rattle.dap_tables.specs.Arrivals.{IsIn, keys_from, key_at, keys_of, next_of, prev_of, no_link}
use Rattle.dap_tables.proofs.ArrivalLemmas.{first-chain, first_among, first_none}
use Rattle.dap_tables.proofs.arrivals.Arrivals.first.Goals as goal
use Rattle.dap_tables.proofs.arrivals.Arrivals.first.Goals.{After-key_at}

-- the place that was read is the one after the head
place : (c : After-key_at) → c.key_at.result ≡ key_at (next_of c.self.inside.links.items 0)
place c =
    let read : c.in-Some.head.now ≡ get_or c.deref.result.now 0 no_link = c.in-Some.ensures.lookup.3.1 no_link in
    c.key_at.ensures ∙ ap (λ (l : Link). key_at l.next) (read ∙ ap (λ (links : List Link). get_or links 0 no_link) c.deref.ensures.value)

pub returns-in-Some-clause-first : goal.returns-in-Some-clause-first
returns-in-Some-clause-first c =
    let w = (goal.at.returns-in-Some-clause-first c).After-key_at in
    let links = w.self.inside.links.items in
    let keys = keys_of links w.self.inside.len in
    rw (← c.self.view_is) (ap (λ (o : Option ℕ). keys_from o keys) (place w) ∙ first-chain (next_of links) (prev_of links) 0 keys w.self.invariant.chained)

pub returns-in-Some-clause-among : goal.returns-in-Some-clause-among
returns-in-Some-clause-among c =
    let w = (goal.at.returns-in-Some-clause-among c).After-key_at in
    let links = w.self.inside.links.items in
    let keys = keys_of links w.self.inside.len in
    rw (← c.self.view_is) (subst (λ (o : Option ℕ). IfSome o (λ key. IsIn key keys)) (sym (place w)) (first_among (next_of links) (prev_of links) 0 keys w.self.invariant.chained))

pub returns-in-None-clause-first : goal.returns-in-None-clause-first
returns-in-None-clause-first c =
    let few : length c.self.inside.links.items ≤ 0 = subst (λ (links : List Link). length links ≤ 0) c.deref.ensures.value c.in-None.ensures.lookup.3 in
    rw (← c.self.view_is) (sym (first_none c.self.inside.links.items c.self.inside.len c.self.invariant few))

use Rattle.std.proofs.Common.{◌+◌, ◌∷◌, ap, ◌∙◌, sym, arith, ℕ, Option, IfSome, subst}
use Rattle.std.proofs.lemmas.List.{get_or_read}
use Rattle.dap_tables.specs.declared.arrivals.Link.{Link}
use Rattle.dap_tables.specs.Arrivals.{IsIn, keys_from, key_at, keys_of, next_of, prev_of, no_link}
use Rattle.dap_tables.proofs.ArrivalLemmas.{after-chain, after_among}
use Rattle.dap_tables.proofs.arrivals.Arrivals.after.Goals as goal

pub overflow_add-key : goal.overflow_add-key
overflow_add-key c =
    let within = c.self.invariant.within c.args.key (rw (← c.self.view_is) at c.requires) in
    omega arith

pub index-requires : goal.index-requires
index-requires c =
    let within = c.self.invariant.within c.args.key (rw (← c.self.view_is) at c.requires) in
    omega arith

pub returns-clause-after : goal.returns-clause-after
returns-clause-after c =
    let links = c.self.inside.links.items in
    let keys = keys_of links c.self.inside.len in
    let found = rw (← c.self.view_is) at c.requires in
    let read = ap (λ (l : Link). l.next) (get_or_read links (c.args.key + 1) c.index.result.now (c.self.invariant.within c.args.key found) c.index.ensures no_link) in
    let is = c.key_at.ensures ∙ ap key_at read in
    rw (← c.self.view_is) (after-chain (next_of links) (prev_of links) 0 keys c.args.key c.self.invariant.chained c.self.invariant.apart found
    ∙ ap (λ (o : Option ℕ). c.args.key ∷ keys_from o keys) (sym is))

pub returns-clause-among : goal.returns-clause-among
returns-clause-among c =
    let links = c.self.inside.links.items in
    let keys = keys_of links c.self.inside.len in
    let found = rw (← c.self.view_is) at c.requires in
    let read = ap (λ (l : Link). l.next) (get_or_read links (c.args.key + 1) c.index.result.now (c.self.invariant.within c.args.key found) c.index.ensures no_link) in
    let is = c.key_at.ensures ∙ ap key_at read in
    rw (← c.self.view_is) (subst (λ (o : Option ℕ). IfSome o (λ later. IsIn later keys)) (sym is) (after_among (next_of links) (prev_of links) 0 keys c.args.key c.self.invariant.chained found))

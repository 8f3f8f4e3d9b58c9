use Rattle.std.proofs.Common.{rules, ◌≡◌, ap, ◌∙◌, is_some, Option, ℕ}
use Rattle.dap_tables.proofs.OutstandingLemmas.{contains-stored}
use Rattle.dap_tables.proofs.outstanding.Outstanding.contains.Goals as goal

pub returns-clause-contains : goal.returns-clause-contains
returns-clause-contains c =
    let found : c.is_some.result ≡ is_some c.get.result = search rules in
    rw (← c.self.view_is) (found ∙ ap (λ (o : Option ℕ). is_some o) c.get.ensures ∙ contains-stored c.self.inside.room c.self.inside.slots c.self.inside.index c.self.inside.order c.self.invariant c.args.seq)

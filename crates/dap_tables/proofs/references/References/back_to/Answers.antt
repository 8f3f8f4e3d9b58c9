use Rattle.dap_tables.proofs.ReferenceLemmas.{order-take}
use Rattle.dap_tables.proofs.references.References.back_to.Goals as goal

pub invariant_of-self : goal.invariant_of-self
invariant_of-self c =
    order-take c.self.inside.room c.self.inside.greatest c.self.inside.base c.mark.inside.live c.self.inside.live c.truncate.new.self c.self.invariant c.truncate.ensures

pub returns-clause-orderly : goal.returns-clause-orderly
returns-clause-orderly c = invariant_of-self c

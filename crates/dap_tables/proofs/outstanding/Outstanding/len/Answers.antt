use Rattle.std.proofs.Common.{◌∙◌, sym}
use Rattle.dap_tables.proofs.OutstandingLemmas.{length-stored}
use Rattle.dap_tables.proofs.outstanding.Outstanding.len.Goals as goal

pub returns-clause-len : goal.returns-clause-len
returns-clause-len c = rw (← c.self.view_is) (c.len.ensures ∙ sym (length-stored c.self.inside.room c.self.inside.slots c.self.inside.index c.self.inside.order c.self.invariant))

use Rattle.std.proofs.Common.{sym, subst, ◌∙◌}
use Rattle.dap_tables.specs.Known.{IsSet}
use Rattle.dap_tables.proofs.KnownLemmas.{back-to, set-then}
use Rattle.dap_tables.proofs.known.Known.add.Goals as goal

pub invariant_of-self : goal.invariant_of-self
invariant_of-self c = set-then c.self.inside.room c.self.inside.held c.add_each.new.held c.args.given.now c.self.invariant c.in-Ok.ensures.ok c.in-Ok.ensures.within

pub returns-in-Ok-clause-set : goal.returns-in-Ok-clause-set
returns-in-Ok-clause-set c = invariant_of-self c

pub invariant_of-self-in-Err : goal.invariant_of-self-in-Err
invariant_of-self-in-Err c =
    subst IsSet (sym (back-to c.self.inside.room c.len-before.result c.self.inside.held c.add_each.new.held c.truncate.new.self c.self.invariant c.truncate.ensures c.len-before.ensures c.in-Err.ensures.front)) c.self.invariant

pub returns-in-Err-clause-set : goal.returns-in-Err-clause-set
returns-in-Err-clause-set c = invariant_of-self-in-Err c

pub returns-in-Err-clause-err : goal.returns-in-Err-clause-err
returns-in-Err-clause-err c =
    back-to c.self.inside.room c.len-before.result c.self.inside.held c.add_each.new.held c.truncate.new.self c.self.invariant c.truncate.ensures c.len-before.ensures c.in-Err.ensures.front ∙ c.self.view_is

use Rattle.std.proofs.Common.{sym, ◌∙◌}
use Rattle.dap_shape.proofs.ShapeLemmas.{entry_passed, entry_found}
use Rattle.dap_shape.proofs.message.field_named.Goals as goal

pub loop-entry-preserved : goal.loop-entry-preserved
loop-entry-preserved c = entry_passed c.args.entries.now c.args.name.now c.loop-entry.entry-index _ c.loop-entry-test.true (sym c.eq.ensures ∙ c.if-eq.false) ∙ c.loop-entry.invariant

pub returns-then-eq : goal.returns-then-eq
returns-then-eq c = entry_found c.args.entries.now c.args.name.now c.loop-entry.entry-index _ c.loop-entry-test.true (sym c.eq.ensures ∙ c.if-eq.true) ∙ c.loop-entry.invariant

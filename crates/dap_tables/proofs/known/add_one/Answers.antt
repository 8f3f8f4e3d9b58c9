use Rattle.std.proofs.Common.{sym, ◌∙◌}
use Rattle.dap_tables.proofs.KnownLemmas.{no-place}
use Rattle.dap_tables.proofs.known.add_one.Goals as goal

pub push-requires : goal.push-requires
push-requires c = no-place c.stored-target.result c.args.held.now (sym c.has.ensures ∙ c.if-has.false)

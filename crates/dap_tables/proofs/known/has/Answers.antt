use Rattle.std.proofs.Common.{ap, ◌∙◌, is_some}
use Rattle.dap_tables.proofs.KnownLemmas.{has-place}
use Rattle.dap_tables.proofs.known.has.Goals as goal

pub returns : goal.returns
returns c = c.is_some.ensures ∙ (ap is_some c.place.ensures ∙ has-place c.args.target c.args.held.now)

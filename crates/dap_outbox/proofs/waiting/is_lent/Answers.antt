use Rattle.std.proofs.Common.{◌∙◌, ap}
use Rattle.std.specs.Option.{option_copied}
use Rattle.dap_outbox.proofs.WaitingLemmas.{found-is-lent, none-is-lent}
use Rattle.dap_outbox.proofs.waiting.is_lent.Goals as goal

pub returns-in-Some-clause-lent : goal.returns-in-Some-clause-lent
returns-in-Some-clause-lent c = c.is_lent_in.ensures ∙ found-is-lent _ c.in-Some.request.now c.args.seq c.args.kept.now.kept c.len.ensures.orderly.distinct c.get.ensures.entry (ap option_copied c.in-Some.is)

pub returns-in-None-clause-lent : goal.returns-in-None-clause-lent
returns-in-None-clause-lent c = none-is-lent _ c.args.seq c.args.kept.now.kept c.len.ensures.orderly.distinct c.get.ensures.entry (ap option_copied c.in-None.is)

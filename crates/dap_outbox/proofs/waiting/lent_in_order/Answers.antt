use Rattle.dap_outbox.proofs.WaitingLemmas.{lent-entries}
use Rattle.dap_outbox.proofs.waiting.lent_in_order.Goals as goal

pub returns : goal.returns
returns c = record { entries = rw c.in_order.ensures.entries (lent-entries c.args.kept.now.kept c.in_order.ensures.orderly.distinct) }

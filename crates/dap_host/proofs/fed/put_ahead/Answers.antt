use Rattle.std.proofs.Common.{◌∙◌, ap}
use Rattle.dap_live.specs.MailState.{with_ahead}
use Rattle.dap_host.proofs.FedLemmas.{over}
use Rattle.dap_host.proofs.fed.put_ahead.Goals as goal

pub returns : goal.returns
returns c = over c.args.adapter.now c.exchange.new.self _ _ c.exchange.ensures.exchanges c.exchange.ensures.put (c.prepare.ensures ∙ ap (with_ahead c.args.ahead) c.new-mail.ensures)

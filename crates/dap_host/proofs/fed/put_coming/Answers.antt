use Rattle.std.proofs.Common.{◌∙◌, ap}
use Rattle.dap_live.specs.MailState.{with_coming}
use Rattle.dap_host.proofs.FedLemmas.{over}
use Rattle.dap_host.proofs.fed.put_coming.Goals as goal

pub returns : goal.returns
returns c = over c.args.adapter.now c.exchange.new.self _ _ c.exchange.ensures.exchanges c.exchange.ensures.put (c.post.ensures ∙ ap (with_coming c.args.coming) c.new-mail.ensures)

use Rattle.dap_channel.proofs.Logs.{log-kept}
use Rattle.dap_channel.proofs.channel.calls_are_the_log.Goals as goal

pub returns : goal.returns
returns c = λ old new calls r. log-kept old new calls r

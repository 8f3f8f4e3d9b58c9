use Rattle.dap_body.proofs.ReadAgain.{what_is_written_is_read_again as each_body}
use Rattle.dap_body.proofs.laws.what_is_written_is_read_again.Goals as goal

pub returns : goal.returns
returns c = each_body

use Rattle.dap_json.proofs.ReadAgain.{read_again}
use Rattle.dap_json.proofs.laws.text_is_read_again.Goals as goal

pub returns : goal.returns
returns c = read_again

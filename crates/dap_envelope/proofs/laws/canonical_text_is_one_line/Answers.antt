use Rattle.dap_envelope.proofs.OneLine.{one_line}
use Rattle.dap_envelope.proofs.laws.canonical_text_is_one_line.Goals as goal

pub returns : goal.returns
returns c = one_line

use Rattle.dap_envelope.proofs.Ranges.{read_is_in_range}
use Rattle.dap_envelope.proofs.laws.read_is_in_range.Goals as goal

pub returns : goal.returns
returns c = read_is_in_range

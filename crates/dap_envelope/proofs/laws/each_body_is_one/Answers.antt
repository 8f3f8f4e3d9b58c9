use Rattle.dap_envelope.proofs.Told.{each_is_one}
use Rattle.dap_envelope.proofs.laws.each_body_is_one.Goals as goal

pub returns : goal.returns
returns c = each_is_one

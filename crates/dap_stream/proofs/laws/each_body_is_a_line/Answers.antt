use Rattle.dap_stream.proofs.Unwrapped.{is_listed, lines_are}
use Rattle.dap_stream.proofs.laws.each_body_is_a_line.Goals as goal

pub returns : goal.returns
returns c = record { listed = is_listed; lines = lines_are }

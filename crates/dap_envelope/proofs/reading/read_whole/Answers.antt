use Rattle.std.proofs.Common.{ap, rules}
use Rattle.dap_envelope.specs.PrivateVerdict.{verdict_of}
use Rattle.dap_envelope.proofs.reading.read_whole.Goals as goal

pub returns-in-Ok : goal.returns-in-Ok
returns-in-Ok c = rw c.in-Ok.ensures.ok c.envelope.ensures

pub returns-in-Err-NotJson : goal.returns-in-Err-NotJson
returns-in-Err-NotJson c = ap verdict_of (c.parse.ensures.refused (search rules))

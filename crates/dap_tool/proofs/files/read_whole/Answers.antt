use Rattle.dap_tool.proofs.WholeFiles.{known_read, known_end, known_short, known_fault}
use Rattle.dap_tool.proofs.files.read_whole.Goals as goal

pub returns-clause-read : goal.returns-clause-read
returns-clause-read g c = known_read (λ p. g.R.Read.remaining p.reader) c.inputs_tell_their_bytes.ensures _ _ _ c.read_channel.ensures

pub returns-clause-end : goal.returns-clause-end
returns-clause-end g c = known_end (λ p. g.R.Read.remaining p.reader) c.inputs_tell_their_bytes.ensures _ _ _ c.read_channel.ensures

pub returns-clause-short : goal.returns-clause-short
returns-clause-short g c = known_short (λ p. g.R.Read.remaining p.reader) c.inputs_tell_their_bytes.ensures _ _ _ c.read_channel.ensures

pub returns-clause-fault : goal.returns-clause-fault
returns-clause-fault g c = known_fault (λ p. g.R.Read.remaining p.reader) c.inputs_tell_their_bytes.ensures _ _ _ c.read_channel.ensures

use Rattle.dap_envelope.proofs.SoundReading.{read_sound}
use Rattle.dap_envelope.proofs.laws.read_is_sound.Goals as goal

pub returns : goal.returns
returns c = read_sound c.what_is_read_is_sound.ensures

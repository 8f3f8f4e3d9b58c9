use Rattle.dap_json.proofs.SoundRead.{is_read_sound}
use Rattle.dap_json.proofs.laws.what_is_read_is_sound.Goals as goal

pub returns : goal.returns
returns c = is_read_sound

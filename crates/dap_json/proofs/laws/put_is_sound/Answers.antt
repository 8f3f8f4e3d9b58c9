use Rattle.dap_json.proofs.SoundPut.{HasSound-put}
use Rattle.dap_json.proofs.laws.put_is_sound.Goals as goal

pub returns : goal.returns
returns c = HasSound-put

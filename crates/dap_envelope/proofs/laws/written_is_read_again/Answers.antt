use Rattle.dap_envelope.proofs.SoundTree.{Msg-canon}
use Rattle.dap_envelope.proofs.laws.written_is_read_again.Goals as goal

pub returns : goal.returns
returns c = Msg-canon c.put_is_sound.ensures c.text_is_read_again.ensures

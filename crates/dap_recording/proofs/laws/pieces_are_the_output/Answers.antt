use Rattle.dap_recording.proofs.PieceLemmas.{pieces_whole}
use Rattle.dap_recording.proofs.laws.pieces_are_the_output.Goals as goal

pub returns : goal.returns
returns c = pieces_whole

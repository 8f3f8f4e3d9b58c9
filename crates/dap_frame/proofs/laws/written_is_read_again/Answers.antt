use Rattle.dap_frame.proofs.FramesWritten.{written_frame, written_split}
use Rattle.dap_frame.proofs.laws.written_is_read_again.Goals as goal

pub returns : goal.returns
returns c = record {
  frame = λ bounds x room small fits. written_frame bounds room small x fits;
  split = λ bounds xs room small all. written_split bounds room small xs all;
}

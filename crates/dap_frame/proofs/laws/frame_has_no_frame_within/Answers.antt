use Rattle.dap_frame.proofs.Prefixes.{before_end}
use Rattle.dap_frame.proofs.laws.frame_has_no_frame_within.Goals as goal

pub returns : goal.returns
returns c = record {
  no_frame = λ bounds f x p q b fr cut. (before_end bounds f x p q b fr cut).0;
  unrefused = λ bounds f x p q b fr cut. (before_end bounds f x p q b fr cut).1;
}

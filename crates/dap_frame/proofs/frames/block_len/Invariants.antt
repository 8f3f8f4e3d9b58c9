use Rattle.std.proofs.Common.{◌≡◌, take, None}
use Rattle.dap_frame.specs.Verdict.{block_end}
use Rattle.dap_frame.proofs.frames.block_len.Given as goal

abbrev pub invariant-loop-i : goal.invariant-loop-i
invariant-loop-i l = block_end (take l.i l.bytes) ≡ None

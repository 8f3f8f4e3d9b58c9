use Rattle.std.proofs.Common.{arith}
use Rattle.dap_frame.proofs.Ends.{no_end}
use Rattle.dap_frame.proofs.frames.ends_block.Goals as goal
use Rattle.dap_frame.proofs.frames.ends_block.Goals.{then-count-eq0-via-then-count-eq0, then-count-eq0-via-else-count-eq0+then-bytes-count-ne10}

pub returns-then-count-eq0 : goal.returns-then-count-eq0
returns-then-count-eq0 c = elim c.then-count-eq0.branch [
  | then-count-eq0-via-then-count-eq0 w ↦ no_end c.args.bytes.now (λ some feed. absurd (omega (arith, w.if-count-eq0.true)))
  | then-count-eq0-via-else-count-eq0+then-bytes-count-ne10 w ↦ no_end c.args.bytes.now (λ some feed. w.if-bytes-count-ne10.true feed)
]

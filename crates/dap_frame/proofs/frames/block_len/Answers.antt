use Rattle.std.proofs.Common.{◌+◌, sym, ◌∙◌, arith, take}
use Rattle.dap_frame.proofs.Blocks.{end_is}
use Rattle.dap_frame.proofs.Ends.{front_open, front_whole}
use Rattle.dap_frame.proofs.frames.block_len.Goals as goal

pub returns-then-ends_block-clause-some : goal.returns-then-ends_block-clause-some
returns-then-ends_block-clause-some c =
    let whole = front_whole c.args.bytes.now c.loop-i.i (omega arith) c.loop-i.invariant (sym c.ends_block.ensures ∙ c.if-ends_block.true) in
    (omega arith, omega arith, omega (arith, (end_is (take (c.loop-i.i + 1) c.args.bytes.now) (c.loop-i.i + 1) whole).3), whole)

pub loop-i-preserved : goal.loop-i-preserved
loop-i-preserved c = front_open c.args.bytes.now c.loop-i.i (omega arith) c.loop-i.invariant (sym c.ends_block.ensures ∙ c.if-ends_block.false)

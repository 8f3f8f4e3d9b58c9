use Rattle.std.proofs.Common.{arith, rules}
use Rattle.my_debugger.proofs.Frames.{next_frame}
use Rattle.my_debugger.proofs.queries.frames.Goals as goal

pub loop-number-preserved : goal.loop-number-preserved
loop-number-preserved c =
    next_frame c.args.stack.now c.loop-number.number c.index-stack-number.result c.in_ok-clone.field-0 c.line.result c.none.result c.loop-number.frames.items c.push.new.self.items (omega arith) c.index-stack-number.is (search rules) c.line.ensures c.none.ensures c.loop-number.invariant c.in_ok-push.ensures.items

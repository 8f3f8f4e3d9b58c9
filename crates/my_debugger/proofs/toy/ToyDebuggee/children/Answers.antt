use Rattle.my_debugger.proofs.Frames.{part_told}
use Rattle.my_debugger.proofs.toy.ToyDebuggee.children.Goals as goal

pub returns-in_ok-variables-in-Some : goal.returns-in_ok-variables-in-Some
returns-in_ok-variables-in-Some c = part_told _ c.args.start c.args.count c.in-Some.locals.now c.window-part.result.now c.in_ok-variables-in-Some.field-0.items c.in-Some.ensures c.window-part.ensures c.in_ok-variables-in-Some.ensures

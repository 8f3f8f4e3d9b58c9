use Rattle.std.proofs.Common.{rules}
use Rattle.dap_stream.proofs.UnbrokenTexts.{none_left_out}
use Rattle.dap_stream.proofs.bodies.push_unbroken.Goals as goal

pub returns-in-None : goal.returns-in-None
returns-in-None c = let same = none_left_out c.args.body.now c.in-None.ensures in rw same (search rules)

use Rattle.dap_line.proofs.SaidLemmas.{tells_so}
use Rattle.dap_line.proofs.told.read_said.Goals as goal

pub returns-in-Ok-clause-tells : goal.returns-in-Ok-clause-tells
returns-in-Ok-clause-tells c = tells_so c.said_in.result c.args.text.now _ c.in-Ok.ensures.ok c.said_in.ensures.gives

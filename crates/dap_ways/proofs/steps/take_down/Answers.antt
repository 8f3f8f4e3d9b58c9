use Rattle.dap_ways.proofs.Calling.{got-steps}
use Rattle.dap_ways.proofs.steps.take_down.Goals as goal

pub returns-clause-step : goal.returns-clause-step
returns-clause-step g c = got-steps g.D.Debuggee.shown g.D.Debuggee.follows c.take.result c.args.client.now c.take.new.self c.args.piece.now c.take.ensures.takes c.take.ensures.limits

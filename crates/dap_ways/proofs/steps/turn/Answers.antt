use Rattle.dap_ways.proofs.Calling.{turned-steps}
use Rattle.dap_ways.proofs.steps.turn.Goals as goal

pub returns-clause-step : goal.returns-clause-step
returns-clause-step g c = turned-steps g.D.Debuggee.shown g.D.Debuggee.follows c.turn.result c.args.adapter.now _ c.turn.ensures.gives c.turn.ensures.limits

use Rattle.dap_ways.proofs.Calling.{emitted-steps}
use Rattle.dap_ways.proofs.steps.emit.Goals as goal

pub returns-clause-step : goal.returns-clause-step
returns-clause-step g c = emitted-steps g.D.Debuggee.shown g.D.Debuggee.follows c.emit.result c.args.event.now c.args.body.now c.args.adapter.now c.emit.new.self c.args.out.now.items c.emit.new.out.items c.emit.ensures.emits c.emit.ensures.limits

use Rattle.dap_ways.proofs.Calling.{polled-steps}
use Rattle.dap_ways.proofs.steps.poll.Goals as goal

pub returns-clause-step : goal.returns-clause-step
returns-clause-step g c = polled-steps g.D.Debuggee.shown g.D.Debuggee.follows (λ bytes. bytes.items) c.poll.result c.args.adapter.now c.poll.new.self c.poll.ensures.saw c.poll.ensures.limits

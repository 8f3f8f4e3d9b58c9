use Rattle.dap_ways.proofs.Calling.{exchange-steps}
use Rattle.dap_ways.proofs.steps.exchange.Goals as goal

pub returns-clause-step : goal.returns-clause-step
returns-clause-step g c = exchange-steps g.D.Debuggee.shown g.D.Debuggee.follows c.args.adapter.now c.exchange.new.self c.exchange.ensures.exchanges

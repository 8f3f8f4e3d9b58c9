use Rattle.dap_ways.proofs.Calling.{sent-steps}
use Rattle.dap_ways.proofs.steps.send.Goals as goal

pub returns-clause-step : goal.returns-clause-step
returns-clause-step g c = sent-steps g.D.Debuggee.shown g.D.Debuggee.follows c.send.result c.args.call.now c.args.client.now c.send.new.self c.requires.plain c.send.ensures.sent c.send.ensures.bytes c.send.ensures.session c.send.ensures.reads_back c.send.ensures.goes_on

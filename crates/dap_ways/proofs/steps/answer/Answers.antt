use Rattle.dap_ways.proofs.Calling.{answered-steps}
use Rattle.dap_ways.proofs.steps.answer.Goals as goal

pub returns-clause-step : goal.returns-clause-step
returns-clause-step g c = answered-steps g.D.Debuggee.shown g.D.Debuggee.follows (λ bytes. bytes.items) c.answer.result c.args.request_seq c.args.terminal c.args.client.now c.answer.new.self c.requires.plain c.answer.ensures.answered c.answer.ensures.bytes c.answer.ensures.session c.answer.ensures.reads_back c.answer.ensures.goes_on

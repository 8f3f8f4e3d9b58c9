use Rattle.dap_connection.specs.Connection.{no_response}
use Rattle.dap_connection.proofs.Hearing.{closed_by_waiting}
use Rattle.dap_connection.proofs.connection.Connection.ask.Goals as goal

pub returns-in-Err-response-clause-fails : goal.returns-in-Err-response-clause-fails
returns-in-Err-response-clause-fails g c = λ is_open. no_response c.in-Ok.seq c.send.new.self c.in-Ok.ensures.sent c.in-Ok.ensures.kept (c.in-Err-response.ensures.fails c.in-Ok.ensures.open)

pub returns-in-Err-response-clause-closes : goal.returns-in-Err-response-clause-closes
returns-in-Err-response-clause-closes g c =
    let fails = c.in-Err-response.ensures.fails c.in-Ok.ensures.open in
    closed_by_waiting g.C.Channel.goes c.in-Ok.seq _ fails.before c.in-Err-response.fault c.response.new.self.wire c.args.self.now c.response.new.self fails.fails c.in-Err-response.ensures.latches

use Rattle.std.proofs.Common.{subst}
use Rattle.dap_client.specs.Calls.{Takes, TakeRefused}
use Rattle.dap_client.specs.ClientState.{ClientState}
use Rattle.dap_client.proofs.Ends.{none-met, received}
use Rattle.dap_client.proofs.client.Client.take.Goals as goal

pub returns-in-Ok-clause-takes : goal.returns-in-Ok-clause-takes
returns-in-Ok-clause-takes c =
    let new : ClientState = record { session = c.receive.new.session; intake = c.receive.new.reader.intake; fault = c.self.inside.fault } in
    let old : ClientState = record { session = c.self.inside.session; intake = c.self.inside.reader.intake; fault = c.self.inside.fault } in
    subst (λ (x : ClientState). Takes x c.args.piece.now c.in-Ok.got c.in-Ok.got.delivered new) c.self.view_is
    (received c.read_is_in_range.ensures c.histories_grow.ensures c.each_step_goes_on.ensures c.each_step_stays_within.ensures old new c.args.piece.now c.in-Ok.got c.in-Ok.got.delivered
    c.in-Ok.ensures.bounds c.in-Ok.ensures.limits (none-met c.self.inside.fault c.in_default.not-Some) c.in-Ok.ensures.received)

pub returns-in-Err-clause-refused : goal.returns-in-Err-clause-refused
returns-in-Err-clause-refused c = λ _. subst (λ (x : ClientState). TakeRefused x.intake x.session c.args.piece.now c.in-Err.fault) c.self.view_is c.in-Err.ensures.refused

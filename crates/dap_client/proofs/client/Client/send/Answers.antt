use Rattle.std.proofs.Common.{◌≡◌, Bool, None, ap, subst}
use Rattle.dap_client.specs.ClientState.{ClientState}
use Rattle.dap_client.specs.Sending.{first_of, refusals_in_order, after_send}
use Rattle.dap_client.proofs.Ends.{on-both, went}
use Rattle.dap_client.proofs.client.Client.send.Goals as goal

pub returns-clause-goes_on : goal.returns-clause-goes_on
returns-clause-goes_on c =
    let old : ClientState = record { session = c.self.inside.session; intake = c.self.inside.reader.intake; fault = c.self.inside.fault } in
    let call = c.args.call.now in
    on-both c.send.result
    (λ (sent : first_of refusals_in_order call c.is_some-closed.result old.session ≡ None) (session : c.send.new.self ≡ after_send call old.session).
    rw (← c.self.view_is)
    (went c.histories_grow.ensures c.each_step_goes_on.ensures c.each_step_stays_within.ensures old (record old { session = c.send.new.self }) call
    (subst (λ (b : Bool). first_of refusals_in_order call b old.session ≡ None) c.is_some-closed.ensures sent)
    (ap (λ s. record old { session = s }) session)))
    c.send.ensures.sent c.send.ensures.session

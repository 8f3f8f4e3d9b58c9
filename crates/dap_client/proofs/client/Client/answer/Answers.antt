use Rattle.std.proofs.Common.{◌≡◌, Bool, None, ap, subst}
use Rattle.dap_client.specs.TerminalResponse.{first_terminal_refusal, after_terminal_response}
use Rattle.dap_client.specs.ClientState.{ClientState}
use Rattle.dap_client.proofs.Ends.{on-both, answered-terminal}
use Rattle.dap_client.proofs.client.Client.answer.Goals as goal

pub returns-clause-goes_on : goal.returns-clause-goes_on
returns-clause-goes_on c =
    let old : ClientState = record { session = c.self.inside.session; intake = c.self.inside.reader.intake; fault = c.self.inside.fault } in
    on-both c.answer.result
    (λ (answered : first_terminal_refusal c.args.request_seq c.is_some-closed.result old.session ≡ None) (session : c.answer.new.self ≡ after_terminal_response c.args.request_seq old.session).
    rw (← c.self.view_is)
    (answered-terminal c.histories_grow.ensures c.each_step_goes_on.ensures c.each_step_stays_within.ensures old (record old { session = c.answer.new.self }) c.args.request_seq c.args.terminal
    (subst (λ (b : Bool). first_terminal_refusal c.args.request_seq b old.session ≡ None) c.is_some-closed.ensures answered)
    (ap (λ s. record old { session = s }) session)))
    c.answer.ensures.answered c.answer.ensures.session

use Rattle.std.proofs.Common.{ap, ◌∙◌}
use Rattle.std.specs.List.{slice_get}
use Rattle.std.specs.Prelude.{option_map}
use Rattle.dap_history.specs.History.{Asked}
use Rattle.dap_client.specs.ClientState.{ClientState}
use Rattle.dap_client.specs.Session.{oldest_of}
use Rattle.dap_client.proofs.TerminalRequests.{oldest-asked}
use Rattle.dap_client.proofs.client.Client.oldest_incoming.Goals as goal

pub returns-clause-waiting : goal.returns-clause-waiting
returns-clause-waiting c = λ s h st.
    c.oldest_incoming.ensures ∙ ap (λ (e : ClientState). oldest_of e.session.incoming) c.self.view_is
    ∙ oldest-asked c.args.self.now.session.incoming ∙ ap (λ qs. option_map (λ (q : Asked). q.seq) (slice_get qs 0)) st.session.incoming

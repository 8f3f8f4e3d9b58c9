use Rattle.std.proofs.Common.{◌≡◌, ◌≤◌, [], ◌∷◌, ap, ◌∙◌, arith, subst}
use Rattle.std.specs.Option.{option_copied}
use Rattle.dap_frame.specs.Settings.{Settings}
use Rattle.dap_outbox.specs.Draft.{came_out, reply}
use Rattle.dap_outbox.specs.Outbox.{Holds}
use Rattle.dap_plan.specs.SessionState.{SessionState}
use Rattle.dap_tables.specs.Outstanding.{entry_with}
use Rattle.dap_tables.specs.declared.entry.Entry.{Entry}
use Rattle.dap_session.proofs.RespondFaults.{found-is}
use Rattle.dap_session.proofs.TakingRequests.{each-ok}
use Rattle.dap_session.proofs.session.Session.lent_response.Goals as goal

pub returns-clause-holds : goal.returns-clause-holds
returns-clause-holds g c =
    let is : c.body.result ≡ c.args.self.now.session.limits.body = c.body.ensures.value ∙ ap (λ (x : Settings). x.body) c.limits.ensures in
    let fits : c.body.result ≤ c.args.self.now.session.limits.body = omega arith in
    let found = c.get.ensures.entry ∙ ap (λ (x : SessionState _). entry_with c.args.seq x.session.kept) c.self.view_is in
    each-ok c.respond.result _ _
    (λ ok w yes r e.
    let same = found-is (option_copied c.get.result) c.in-Some.request.now r c.args.seq c.args.self.now.session.kept found (ap option_copied c.in-Some.is) e in
    subst (λ (x : Entry). Holds c.respond.new.self c.args.self.now.session.limits.body c.args.self.now.session.used (reply x (came_out c.args.outcome.now) ∷ [])) same ((w yes).holds _ _ [] fits c.begin.ensures.holds))
    c.respond.ensures.writes

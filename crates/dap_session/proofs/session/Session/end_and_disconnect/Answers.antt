use Rattle.std.proofs.Common.{rules, refl, ◌≡◌, length, Err, ap, ◌∙◌, sym, subst}
use Rattle.dap_tables.specs.Outstanding.{HasDistinctSeqs}
use Rattle.dap_debuggee.specs.Shown.{to_end, done}
use Rattle.dap_plan.specs.Handling.{after_disconnect}
use Rattle.dap_plan.specs.Plan.{asking}
use Rattle.dap_plan.specs.SessionState.{SessionState}
use Rattle.dap_session.proofs.Disconnects.{messages_due-after_disconnect, refused-for, disconnect-made}
use Rattle.dap_session.proofs.TakingRequests.{asking-carries}
use Rattle.dap_session.proofs.session.Session.end_and_disconnect.Goals as goal

pub returns-in_err-room-clause-refused : goal.returns-in_err-room-clause-refused
returns-in_err-room-clause-refused g c =
    let is : c.from_residual.result ≡ Err c.in_err-room.field-0.0 = search rules in
    let d : HasDistinctSeqs c.args.self.now.session.kept = subst (λ (x : SessionState _). HasDistinctSeqs x.session.kept) c.self.view_is c.self.invariant.orderly.distinct in
    let same : length c.args.self.now.session.kept ≡ c.len.result = sym (c.len.ensures.len ∙ ap (λ (x : SessionState _). length x.session.kept) c.self.view_is) in
    rw is (refused-for c.in_err-room.field-0.0 (asking to_end (λ last. after_disconnect c.args.self.now.session c.args.request.now)) c.args.self.now c.len.result c.in_err-room.ensures.err.0 c.in_err-room.ensures.err.1 (messages_due-after_disconnect c.args.self.now.session c.args.request.now d c.requires.kept ∙ same))

pub returns-clause-carries : goal.returns-clause-carries
returns-clause-carries g c =
    asking-carries g.D.Debuggee.follows to_end (λ last. after_disconnect c.args.self.now.session c.args.request.now) done c.args.self.now _ _ (rw c.go.ensures.session c.end.ensures.follows)
    (disconnect-made c.args.self.now.session c.args.request.now c.final_responses.new.out _ _ c.in_ok-final_responses.ensures.holds (rw c.end.ensures.session at (ap (λ (x : SessionState _). x.session) c.go.ensures.session)) refl)

pub returns-clause-within : goal.returns-clause-within
returns-clause-within g c =
    let d : HasDistinctSeqs c.args.self.now.session.kept = subst (λ (x : SessionState _). HasDistinctSeqs x.session.kept) c.self.view_is c.self.invariant.orderly.distinct in
    let same : length c.args.self.now.session.kept ≡ c.len.result = sym (c.len.ensures.len ∙ ap (λ (x : SessionState _). length x.session.kept) c.self.view_is) in
    rw (messages_due-after_disconnect c.args.self.now.session c.args.request.now d c.requires.kept ∙ same) c.in_ok-room.ensures.ok

use Rattle.std.proofs.Common.{rules, ◌≡◌, ◌+◌, length, Err, ap, ◌∙◌, sym, refl, subst}
use Rattle.dap_envelope.specs.ReadBack.{AllReadBack}
use Rattle.dap_outbox.specs.Waiting.{starting_ones}
use Rattle.dap_debuggee.specs.Shown.{to_start, done}
use Rattle.dap_plan.specs.declared.fault.AdapterFault.TheVariants.{OutOfMemory}
use Rattle.dap_plan.specs.Handling.{after_parked_launch}
use Rattle.dap_outbox.specs.Draft.{bytes_of}
use Rattle.dap_outbox.specs.InRange.{AreDraftsInRange}
use Rattle.dap_plan.specs.Plan.{asking, written_by}
use Rattle.dap_plan.specs.SessionState.{SessionState}
use Rattle.dap_session.specs.PrivateReplies.{reply_of}
use Rattle.dap_plan.specs.Session.{Session}
use Rattle.dap_session.proofs.Disconnects.{messages_due-started, count-started, refused-for}
use Rattle.dap_session.proofs.Unasked.{asked}
use Rattle.dap_session.proofs.session.Session.start_parked.Goals as goal

pub returns-in_err-room-clause-refused : goal.returns-in_err-room-clause-refused
returns-in_err-room-clause-refused g c =
    let is : c.from_residual.result ≡ Err c.in_err-room.field-0.0 = search rules in
    let same : length (starting_ones c.args.self.now.session.kept) ≡ c.starting_count.result = sym (c.starting_count.ensures.starting ∙ ap (λ (x : SessionState _). length (starting_ones x.session.kept)) c.self.view_is) in
    rw is (refused-for c.in_err-room.field-0.0 (asking to_start (after_parked_launch c.args.self.now.session c.args.request.now)) c.args.self.now (1 + c.starting_count.result) c.in_err-room.ensures.err.0 c.in_err-room.ensures.err.1 (messages_due-started c.args.self.now.session c.args.request.now done c.requires.unparked ∙ ap (λ n. 1 + n) same))

pub returns-in_err-reply-clause-refused : goal.returns-in_err-reply-clause-refused
returns-in_err-reply-clause-refused g c =
    let is : c.from_residual-in_err-reply.result ≡ Err OutOfMemory = search rules in
    let same : length (starting_ones c.args.self.now.session.kept) ≡ c.starting_count.result = sym (c.starting_count.ensures.starting ∙ ap (λ (x : SessionState _). length (starting_ones x.session.kept)) c.self.view_is) in
    let due_is = messages_due-started c.args.self.now.session c.args.request.now done c.requires.unparked ∙ ap (λ n. 1 + n) same in
    rw is (asked c.args.self.now.session (asking to_start (after_parked_launch c.args.self.now.session c.args.request.now)) _ _ (rw due_is c.in_ok-room.ensures.ok) tt)

pub returns-in_err-start_responses-clause-refused : goal.returns-in_err-start_responses-clause-refused
returns-in_err-start_responses-clause-refused g c =
    let is : c.from_residual-in_err-start_responses.result ≡ Err OutOfMemory = search rules in
    let same : length (starting_ones c.args.self.now.session.kept) ≡ c.starting_count.result = sym (c.starting_count.ensures.starting ∙ ap (λ (x : SessionState _). length (starting_ones x.session.kept)) c.self.view_is) in
    let due_is = messages_due-started c.args.self.now.session c.args.request.now done c.requires.unparked ∙ ap (λ n. 1 + n) same in
    rw is (asked c.args.self.now.session (asking to_start (after_parked_launch c.args.self.now.session c.args.request.now)) _ _ (rw due_is c.in_ok-room.ensures.ok) tt)

pub returns-clause-carries : goal.returns-clause-carries
returns-clause-carries g c =
    record {
      step = record {
        made = _;
        carried = (reply_of c.in_ok-reply.reply, rw (c.set_phase.ensures, c.commit_parked.ensures.session) c.in_ok-reply.ensures.follows, refl);
        after = rw (c.set_phase.ensures, c.commit_parked.ensures.session, c.in_ok-start_responses.ensures.holds.count, count-started c.ask_start.new.self.session c.args.request.now (reply_of c.in_ok-reply.reply), c.in_ok-reply.ensures.session, c.start_phase.ensures) refl;
      };
      tells = record {
        bytes_are = c.in_ok-start_responses.ensures.holds.bytes ∙ ap (λ (x : Session). bytes_of (written_by x (after_parked_launch x c.args.request.now (reply_of c.in_ok-reply.reply)))) c.in_ok-reply.ensures.session;
        reads_back = subst (λ (x : Session). AreDraftsInRange (after_parked_launch x c.args.request.now (reply_of c.in_ok-reply.reply)).drafts → AllReadBack x.limits.body (written_by x (after_parked_launch x c.args.request.now (reply_of c.in_ok-reply.reply)))) c.in_ok-reply.ensures.session c.in_ok-start_responses.ensures.holds.reads_back;
      };
    }

pub returns-clause-within : goal.returns-clause-within
returns-clause-within g c =
    let same : length (starting_ones c.args.self.now.session.kept) ≡ c.starting_count.result = sym (c.starting_count.ensures.starting ∙ ap (λ (x : SessionState _). length (starting_ones x.session.kept)) c.self.view_is) in
    rw (messages_due-started c.args.self.now.session c.args.request.now done c.requires.unparked ∙ ap (λ n. 1 + n) same) c.in_ok-room.ensures.ok

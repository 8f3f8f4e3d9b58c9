use Rattle.std.proofs.Common.{refl, ap, ◌∙◌, subst}
use Rattle.dap_envelope.specs.ReadBack.{AllReadBack}
use Rattle.dap_outbox.specs.Draft.{bytes_of}
use Rattle.dap_outbox.specs.InRange.{AreDraftsInRange}
use Rattle.dap_plan.specs.Handling.{after_launch}
use Rattle.dap_plan.specs.Plan.{written_by}
use Rattle.dap_plan.specs.Session.{Session}
use Rattle.dap_session.specs.PrivateReplies.{reply_of}
use Rattle.dap_session.proofs.session.Session.start.Goals as goal

pub returns-clause-carries : goal.returns-clause-carries
returns-clause-carries g c =
    record {
      step = record {
        made = _;
        carried = (reply_of c.in_ok-reply.reply, rw (c.set_phase.ensures, c.answer_by_reply.ensures.debuggee) c.in_ok-reply.ensures.follows, refl);
        after = rw (c.set_phase.ensures, c.in_ok-answer_by_reply.ensures.made.session, c.in_ok-reply.ensures.session, c.start_phase.ensures) refl;
      };
      tells = record {
        bytes_are = c.in_ok-answer_by_reply.ensures.made.tells.bytes_are ∙ ap (λ (x : Session). bytes_of (written_by x (after_launch x c.args.request.now (reply_of c.in_ok-reply.reply)))) c.in_ok-reply.ensures.session;
        reads_back = subst (λ (x : Session). AreDraftsInRange (after_launch x c.args.request.now (reply_of c.in_ok-reply.reply)).drafts → AllReadBack x.limits.body (written_by x (after_launch x c.args.request.now (reply_of c.in_ok-reply.reply)))) c.in_ok-reply.ensures.session c.in_ok-answer_by_reply.ensures.made.tells.reads_back;
      };
    }

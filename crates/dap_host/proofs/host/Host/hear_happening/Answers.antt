use Rattle.std.proofs.Common.{Ok, refl, subst, ap, ◌∙◌, ◌++◌}
use Rattle.std.proofs.lemmas.Result.{on_ok_weaker}
use Rattle.dap_tables.specs.References.{target_of}
use Rattle.dap_host.specs.Hearing.{HostState, EmitsOrRefuses, AnswersOrRefuses, AsksOrRefuses, with_ahead, not_heard, noted, emitted, lent_answered, client_asked, asked, unread}
use Rattle.dap_host.proofs.GoingLemmas.{going_ahead}
use Rattle.dap_line.specs.Told.{said_of, Says, ahead_with}
use Rattle.dap_line.specs.Written.{refusal_line, target_line}
use Rattle.dap_line.specs.declared.told.Said.{Said}
use Rattle.dap_line.specs.declared.told.Unread.{Unread}
use Rattle.dap_host.proofs.host.Host.hear_happening.Goals as goal

pub returns-in-Ok-Target-clause-hears : goal.returns-in-Ok-Target-clause-hears
returns-in-Ok-Target-clause-hears c =
    let n = c.in-Ok-Target.number-is in
    let same = c.self.view_is in
    on_ok_weaker c.answer_target.result (λ line.
    asked c.in-Ok-Target.number (c.in-Ok-Target.ensures.tells ∙ ap (λ (z : Said). Ok z) c.in-Ok-Target.field-0-is)
    (record { line = rw (← n) line ∙ ap (λ (h : HostState). c.args.out.now.items ++ target_line c.in-Ok-Target.number (target_of h.adapter.session.references c.in-Ok-Target.number)) same; same = same })) c.answer_target.ensures.answered

pub returns-in-Err-Refused-clause-hears : goal.returns-in-Err-Refused-clause-hears
returns-in-Err-Refused-clause-hears c =
    let w = c.in-Err-Refused.why-is in
    let same = c.self.view_is in
    on_ok_weaker c.refuse.result (λ line.
    not_heard _ (unread (subst (λ (z : Unread). Says z (said_of c.args.text.now)) c.in-Err-Refused.field-0-is c.in-Err-Refused.ensures.tells))
    (record { line = rw (← w) line ∙ ap (λ (h : HostState). c.args.out.now.items ++ refusal_line h.number c.in-Err-Refused.why) same; same = same })) c.refuse.ensures.refused

pub returns-in-Ok-OfNext-clause-hears : goal.returns-in-Ok-OfNext-clause-hears
returns-in-Ok-OfNext-clause-hears c =
    noted c.in-Ok-OfNext.note (c.in-Ok-OfNext.ensures.tells ∙ ap (λ (z : Said). Ok z) c.in-Ok-OfNext.field-0-is)
    (record { none = refl; kept = c.keep_note.ensures ∙ ap (λ (h : HostState). with_ahead (ahead_with c.in-Ok-OfNext.note h.ahead) h) c.self.view_is })

pub returns-in-Ok-OfNext-clause-going : goal.returns-in-Ok-OfNext-clause-going
returns-in-Ok-OfNext-clause-going c =
    going_ahead c.args.self.now _ _ (c.keep_note.ensures ∙ ap (λ (h : HostState). with_ahead (ahead_with c.in-Ok-OfNext.note h.ahead) h) c.self.view_is) c.requires

pub returns-in-Ok-Event-clause-hears : goal.returns-in-Ok-Event-clause-hears
returns-in-Ok-Event-clause-hears c =
    on_ok_weaker c.emit.result (λ e. emitted c.in-Ok-Event.event c.in-Ok-Event.body (c.in-Ok-Event.ensures.tells ∙ ap (λ (z : Said). Ok z) c.in-Ok-Event.field-0-is)
    (subst (λ (z : HostState). EmitsOrRefuses z c.in-Ok-Event.event c.in-Ok-Event.body c.args.out.now.items c.emit.new.out.items c.emit.new.self) c.self.view_is (rw (c.in-Ok-Event.event-is, c.in-Ok-Event.body-is) at e))) c.emit.ensures.emits

pub returns-in-Ok-Answer-clause-hears : goal.returns-in-Ok-Answer-clause-hears
returns-in-Ok-Answer-clause-hears c =
    on_ok_weaker c.respond.result (λ a. lent_answered c.in-Ok-Answer.seq c.in-Ok-Answer.outcome (c.in-Ok-Answer.ensures.tells ∙ ap (λ (z : Said). Ok z) c.in-Ok-Answer.field-0-is)
    (subst (λ (z : HostState). AnswersOrRefuses z c.in-Ok-Answer.seq c.in-Ok-Answer.outcome c.args.out.now.items c.respond.new.out.items c.respond.new.self) c.self.view_is (rw (c.in-Ok-Answer.seq-is, c.in-Ok-Answer.outcome-is) at a))) c.respond.ensures.answers

pub returns-in-Ok-Ask-clause-hears : goal.returns-in-Ok-Ask-clause-hears
returns-in-Ok-Ask-clause-hears c =
    on_ok_weaker c.ask.result (λ a. client_asked c.in-Ok-Ask.command c.in-Ok-Ask.arguments (c.in-Ok-Ask.ensures.tells ∙ ap (λ (z : Said). Ok z) c.in-Ok-Ask.field-0-is)
    (subst (λ (z : HostState). AsksOrRefuses z c.in-Ok-Ask.command c.in-Ok-Ask.arguments c.args.out.now.items c.ask.new.out.items c.ask.new.self) c.self.view_is (rw c.in-Ok-Ask.command-is at a))) c.ask.ensures.asks

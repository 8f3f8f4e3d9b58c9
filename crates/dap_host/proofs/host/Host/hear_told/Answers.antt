use Rattle.std.proofs.Common.{◌≡◌, ◌≢◌, ◌++◌, subst}
use Rattle.std.specs.Prelude.{IfErr}
use Rattle.std.proofs.lemmas.Result.{on_ok_weaker}
use Rattle.dap_live.specs.declared.mail.Coming.{Coming}
use Rattle.dap_plan.specs.declared.fault.AdapterFault.TheVariants.{OutOfMemory}
use Rattle.dap_host.specs.Hearing.{HostState, HearsTold, StopsWithin, not_heard, IsUnheard}
use Rattle.dap_host.specs.Parts.{parts_of}
use Rattle.dap_host.proofs.GoingLemmas.{err_weaker}
use Rattle.dap_line.specs.Written.{refusal_line}
use Rattle.dap_line.specs.declared.told.Unread.{Unread}
use Rattle.dap_host.proofs.host.Host.hear_told.Goals as goal

pub returns-in-Ok-clause-stops : goal.returns-in-Ok-clause-stops
returns-in-Ok-clause-stops c = subst (λ (h : HostState). IfErr c.hear_coming.result (λ fault. fault ≢ OutOfMemory → (coming : Coming) × HearsTold h c.args.text.now coming × StopsWithin h (parts_of coming) c.args.out.now.items c.hear_coming.new.out.items c.hear_coming.new.self fault))
    c.in-Ok.ensures.same (err_weaker c.hear_coming.result (λ fault stops some. (c.in-Ok.coming, (stops some).0, (stops some).1)) c.hear_coming.ensures.stops)

pub returns-in-Err-Refused-clause-hears : goal.returns-in-Err-Refused-clause-hears
returns-in-Err-Refused-clause-hears c = let w = c.in-Err-Refused.why-is in on_ok_weaker c.refuse.result (λ line.
    let is : c.refuse.new.out.items ≡ c.args.out.now.items ++ refusal_line c.coming_in.new.self.number c.in-Err-Refused.why = rw (← w) line in
    not_heard c.in-Err-Refused.why (subst (λ (z : Unread). IsUnheard c.args.self.now c.args.text.now z) c.in-Err-Refused.field-0-is c.in-Err-Refused.ensures.refused)
    (record { line = subst (λ (h : HostState). c.refuse.new.out.items ≡ c.args.out.now.items ++ refusal_line h.number c.in-Err-Refused.why) c.in-Err-Refused.ensures.same is; same = c.in-Err-Refused.ensures.same })) c.refuse.ensures.refused

use Rattle.std.proofs.Common.{ap, ◌∙◌, ◌++◌, subst, Option}
use Rattle.std.specs.Option.{IfSome}
use Rattle.std.proofs.lemmas.Result.{on_ok_weaker}
use Rattle.dap_host.specs.Hearing.{HostState, refused, RefusesMessage}
use Rattle.dap_line.specs.Written.{refusal_line}
use Rattle.dap_line.specs.declared.refusal.Refusal.{Refusal}
use Rattle.dap_host.proofs.host.Host.hear_message.Goals as goal

pub returns-in-Ok-Some-clause-hears : goal.returns-in-Ok-Some-clause-hears
returns-in-Ok-Some-clause-hears c =
    let same = c.in-Ok-Some.ensures.same in
    on_ok_weaker c.refuse.result (λ line.
    refused c.in-Ok-Some.why (subst (λ (z : Option Refusal). IfSome z (RefusesMessage c.args.self.now c.args.body.now)) c.in-Ok-Some.field-0-is c.in-Ok-Some.ensures.refused)
    (record { line = line ∙ ap (λ (h : HostState). c.args.out.now.items ++ refusal_line h.number c.in-Ok-Some.why) same; same = same })) c.refuse.ensures.refused

use Rattle.std.proofs.Common.{refl, sym, ap, ◌∙◌, ◌++◌, subst}
use Rattle.std.proofs.lemmas.Result.{on_ok_weaker}
use Rattle.dap_adapter.specs.AdapterState.{AdapterState}
use Rattle.dap_adapter.specs.Calls.{NotEmitted}
use Rattle.dap_line.specs.Written.{refusal_line}
use Rattle.dap_live.specs.LiveShown.{LiveState}
use Rattle.dap_host.specs.Hearing.{HostState, emits, emit_refused}
use Rattle.dap_host.proofs.GoingLemmas.{emit_at, emitted_going}
use Rattle.dap_host.proofs.host.Host.emit.Goals as goal

pub returns-in-Ok-push_messages-clause-emits : goal.returns-in-Ok-push_messages-clause-emits
returns-in-Ok-push_messages-clause-emits c =
    let o : HostState = record { adapter = c.self.inside.adapter; limits = c.self.inside.limits; longest = c.self.inside.longest; number = c.self.inside.number; ahead = c.self.inside.ahead } in
    let k : HostState = record { adapter = c.emit.new.self; limits = c.self.inside.limits; longest = c.self.inside.longest; number = c.self.inside.number; ahead = c.self.inside.ahead } in
    emits (emit_at o c.args.self.now k c.args.event.now c.args.body.now c.emit.new.out.items c.args.out.now.items c.push_messages.new.out.items c.self.view_is (rw (c.as_str.ensures, c.new-bytes.ensures.items) at c.in-Ok.ensures.emits)
    (λ outs are. c.in-Ok-push_messages.ensures outs (c.deref.ensures.value ∙ are)) (record { limits = refl; longest = refl; number = refl; ahead = refl }))

pub returns-in-Ok-push_messages-clause-going : goal.returns-in-Ok-push_messages-clause-going
returns-in-Ok-push_messages-clause-going c =
    let o : HostState = record { adapter = c.self.inside.adapter; limits = c.self.inside.limits; longest = c.self.inside.longest; number = c.self.inside.number; ahead = c.self.inside.ahead } in
    let k : HostState = record { adapter = c.emit.new.self; limits = c.self.inside.limits; longest = c.self.inside.longest; number = c.self.inside.number; ahead = c.self.inside.ahead } in
    emitted_going o c.args.self.now k c.args.event.now c.args.body.now c.emit.new.out.items c.self.view_is c.requires.going c.bodies_come_one_by_one.ensures (rw (c.as_str.ensures, c.new-bytes.ensures.items) at c.in-Ok.ensures.emits) refl

pub returns-in-Some-clause-emits : goal.returns-in-Some-clause-emits
returns-in-Some-clause-emits c =
    let same = c.self.view_is in
    let view : AdapterState LiveState → HostState = λ a. record { adapter = a; limits = c.self.inside.limits; longest = c.self.inside.longest; number = c.self.inside.number; ahead = c.self.inside.ahead } in
    on_ok_weaker c.refuse.result (λ line.
    emit_refused c.in-Err.fault c.in-Some.why
    (subst (λ (h : HostState). NotEmitted c.args.event.now c.args.body.now h.adapter c.in-Err.fault) same (rw c.as_str.ensures at c.in-Err.ensures.refused))
    (sym c.emit_refusal.ensures ∙ c.in-Some.is)
    (record { line = line ∙ ap (λ (h : HostState). c.args.out.now.items ++ refusal_line h.number c.in-Some.why) same; same = ap view c.in-Err.ensures.unchanged ∙ same })) c.refuse.ensures.refused

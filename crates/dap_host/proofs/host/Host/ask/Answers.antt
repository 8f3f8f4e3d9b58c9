use Rattle.std.proofs.Common.{refl, sym, ap, ◌∙◌, ◌++◌, subst}
use Rattle.std.proofs.lemmas.Result.{on_ok_weaker}
use Rattle.dap_adapter.specs.AdapterState.{AdapterState}
use Rattle.dap_adapter.specs.Calls.{NotAsked}
use Rattle.dap_line.specs.Written.{refusal_line}
use Rattle.dap_live.specs.LiveShown.{LiveState}
use Rattle.dap_host.specs.Hearing.{HostState, asks, ask_refused}
use Rattle.dap_host.proofs.GoingLemmas.{ask_at, asked_going}
use Rattle.dap_host.proofs.host.Host.ask.Goals as goal

pub returns-in-Ok-push_messages-clause-asks : goal.returns-in-Ok-push_messages-clause-asks
returns-in-Ok-push_messages-clause-asks c =
    let o : HostState = record { adapter = c.self.inside.adapter; limits = c.self.inside.limits; longest = c.self.inside.longest; number = c.self.inside.number; ahead = c.self.inside.ahead } in
    let k : HostState = record { adapter = c.ask.new.self; limits = c.self.inside.limits; longest = c.self.inside.longest; number = c.self.inside.number; ahead = c.self.inside.ahead } in
    asks (ask_at o c.args.self.now k c.args.command.now c.args.arguments c.ask.new.out.items c.args.out.now.items c.push_messages.new.out.items c.self.view_is (rw (c.as_str.ensures, c.new-bytes.ensures.items) at c.in-Ok.ensures.asks)
    (λ outs are. c.in-Ok-push_messages.ensures outs (c.deref.ensures.value ∙ are)) (record { limits = refl; longest = refl; number = refl; ahead = refl }))

pub returns-in-Ok-push_messages-clause-going : goal.returns-in-Ok-push_messages-clause-going
returns-in-Ok-push_messages-clause-going c =
    let o : HostState = record { adapter = c.self.inside.adapter; limits = c.self.inside.limits; longest = c.self.inside.longest; number = c.self.inside.number; ahead = c.self.inside.ahead } in
    let k : HostState = record { adapter = c.ask.new.self; limits = c.self.inside.limits; longest = c.self.inside.longest; number = c.self.inside.number; ahead = c.self.inside.ahead } in
    asked_going o c.args.self.now k c.args.command.now c.args.arguments c.ask.new.out.items c.self.view_is c.requires.going c.bodies_come_one_by_one.ensures (rw (c.as_str.ensures, c.new-bytes.ensures.items) at c.in-Ok.ensures.asks) refl

pub returns-in-Some-clause-asks : goal.returns-in-Some-clause-asks
returns-in-Some-clause-asks c =
    let same = c.self.view_is in
    let view : AdapterState LiveState → HostState = λ a. record { adapter = a; limits = c.self.inside.limits; longest = c.self.inside.longest; number = c.self.inside.number; ahead = c.self.inside.ahead } in
    on_ok_weaker c.refuse.result (λ line.
    ask_refused c.in-Err.fault c.in-Some.why
    (subst (λ (h : HostState). NotAsked c.args.command.now c.args.arguments h.adapter c.in-Err.fault) same (rw c.as_str.ensures at c.in-Err.ensures.refused))
    (sym c.ask_refusal.ensures ∙ c.in-Some.is)
    (record { line = line ∙ ap (λ (h : HostState). c.args.out.now.items ++ refusal_line h.number c.in-Some.why) same; same = ap view c.in-Err.ensures.unchanged ∙ same })) c.refuse.ensures.refused

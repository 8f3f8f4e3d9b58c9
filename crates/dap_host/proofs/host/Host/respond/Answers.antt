use Rattle.std.proofs.Common.{refl, sym, ap, ◌∙◌, ◌++◌, subst}
use Rattle.std.proofs.lemmas.Result.{on_ok_weaker}
use Rattle.dap_adapter.specs.AdapterState.{AdapterState}
use Rattle.dap_adapter.specs.Calls.{NotResponded}
use Rattle.dap_line.specs.Written.{refusal_line}
use Rattle.dap_live.specs.LiveShown.{LiveState}
use Rattle.dap_host.specs.Hearing.{HostState, answers, answer_refused}
use Rattle.dap_host.proofs.GoingLemmas.{respond_at, responded_going}
use Rattle.dap_host.proofs.host.Host.respond.Goals as goal

pub returns-in-Ok-push_messages-clause-answers : goal.returns-in-Ok-push_messages-clause-answers
returns-in-Ok-push_messages-clause-answers c =
    let o : HostState = record { adapter = c.self.inside.adapter; limits = c.self.inside.limits; longest = c.self.inside.longest; number = c.self.inside.number; ahead = c.self.inside.ahead } in
    let k : HostState = record { adapter = c.respond.new.self; limits = c.self.inside.limits; longest = c.self.inside.longest; number = c.self.inside.number; ahead = c.self.inside.ahead } in
    answers (respond_at o c.args.self.now k c.args.seq c.args.outcome.now c.respond.new.out.items c.args.out.now.items c.push_messages.new.out.items c.self.view_is (rw c.new-bytes.ensures.items at c.in-Ok.ensures.responds)
    (λ outs are. c.in-Ok-push_messages.ensures outs (c.deref.ensures.value ∙ are)) (record { limits = refl; longest = refl; number = refl; ahead = refl }))

pub returns-in-Ok-push_messages-clause-going : goal.returns-in-Ok-push_messages-clause-going
returns-in-Ok-push_messages-clause-going c =
    let o : HostState = record { adapter = c.self.inside.adapter; limits = c.self.inside.limits; longest = c.self.inside.longest; number = c.self.inside.number; ahead = c.self.inside.ahead } in
    let k : HostState = record { adapter = c.respond.new.self; limits = c.self.inside.limits; longest = c.self.inside.longest; number = c.self.inside.number; ahead = c.self.inside.ahead } in
    responded_going o c.args.self.now k c.args.seq c.args.outcome.now c.respond.new.out.items c.self.view_is c.requires.going c.bodies_come_one_by_one.ensures (rw c.new-bytes.ensures.items at c.in-Ok.ensures.responds) refl

pub returns-in-Some-clause-answers : goal.returns-in-Some-clause-answers
returns-in-Some-clause-answers c =
    let same = c.self.view_is in
    let view : AdapterState LiveState → HostState = λ a. record { adapter = a; limits = c.self.inside.limits; longest = c.self.inside.longest; number = c.self.inside.number; ahead = c.self.inside.ahead } in
    on_ok_weaker c.refuse.result (λ line.
    answer_refused c.in-Err.fault c.in-Some.why
    (subst (λ (h : HostState). NotResponded c.args.seq c.args.outcome.now h.adapter c.in-Err.fault) same c.in-Err.ensures.refused)
    (sym c.respond_refusal.ensures ∙ c.in-Some.is)
    (record { line = line ∙ ap (λ (h : HostState). c.args.out.now.items ++ refusal_line h.number c.in-Some.why) same; same = ap view c.in-Err.ensures.unchanged ∙ same })) c.refuse.ensures.refused

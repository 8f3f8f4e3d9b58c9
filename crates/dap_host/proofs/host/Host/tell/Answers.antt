use Rattle.std.proofs.Common.{refl, ap, ◌∙◌}
use Rattle.dap_plan.specs.Polling.{has_debuggee}
use Rattle.dap_host.specs.Hearing.{HostState}
use Rattle.dap_host.proofs.GoingLemmas.{told_at, polls_on_at, stopped_telling_at, none_met}
use Rattle.dap_host.proofs.host.Host.tell.Goals as goal

pub tell_fed-requires-clause-open : goal.tell_fed-requires-clause-open
tell_fed-requires-clause-open c = none_met _ c.args.self.now c.self.view_is c.requires.going

pub tell_fed-requires-clause-in_a_run : goal.tell_fed-requires-clause-in_a_run
tell_fed-requires-clause-in_a_run c = ap (λ (z : HostState). has_debuggee z.adapter.session.phase) c.self.view_is ∙ c.requires.in_a_run

pub returns-in-Ok-push_messages-clause-tells : goal.returns-in-Ok-push_messages-clause-tells
returns-in-Ok-push_messages-clause-tells c =
    told_at _ c.args.self.now _ c.args.coming c.in-Ok.dropped c.tell_fed.new.bytes.items c.args.out.now.items c.push_messages.new.out.items c.self.view_is c.in-Ok.ensures.tells
    (λ outs are. c.in-Ok-push_messages.ensures outs (c.deref.ensures.value ∙ are)) (record { limits = refl; longest = refl; number = refl; ahead = refl })

pub returns-in-Ok-push_messages-clause-going : goal.returns-in-Ok-push_messages-clause-going
returns-in-Ok-push_messages-clause-going c = polls_on_at _ c.args.self.now _ c.args.coming c.in-Ok.dropped c.tell_fed.new.bytes.items c.self.view_is c.requires.going c.bodies_come_one_by_one.ensures c.in-Ok.ensures.tells refl

pub returns-clause-stops : goal.returns-clause-stops
returns-clause-stops c = λ some.
    stopped_telling_at _ c.args.self.now _ c.args.coming c.tell_fed.new.bytes.items c.args.out.now.items c.break_off.new.out.items c.in-Err.fault c.break_off.result c.self.view_is
    (c.break_off.ensures.is some) c.in-Err.ensures.stops (λ outs are. c.break_off.ensures.out some outs (c.deref-in-Err.ensures.value ∙ are))

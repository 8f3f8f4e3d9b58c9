use Rattle.std.proofs.Common.{◌≡◌, ℕ, List, [], ap, sym, subst, ◌∙◌}
use Rattle.dap_plan.specs.Session.{Session}
use Rattle.dap_plan.specs.declared.fault.AdapterFault.{AdapterFault}
use Rattle.dap_adapter.specs.Parts.{PollsOn, StopsAfter}
use Rattle.dap_adapter.specs.Run.{to_poll}
use Rattle.dap_adapter.proofs.Appending.{polled_on, limits_at, stopped_after}
use Rattle.dap_adapter.proofs.adapter.Adapter.tell.Goals as goal

pub returns-in-Ok-clause-tells : goal.returns-in-Ok-clause-tells
returns-in-Ok-clause-tells g c = λ run.
    let before : c.behind-gathered.result ≡ c.args.out.now.items = c.behind-gathered.ensures ∙ ap (λ (v : _). v.items) c.replace.ensures.value in
    subst (λ (x : List ℕ). PollsOn g.D.Debuggee.shown g.D.Debuggee.follows c.args.self.now x c.polls-told.new.adapter c.into_buffer.result.items) before
    (subst (λ (y : List ℕ). PollsOn g.D.Debuggee.shown g.D.Debuggee.follows c.args.self.now c.behind-gathered.result c.polls-told.new.adapter y) (sym c.into_buffer.ensures)
    (polled_on g.D.Debuggee.shown g.D.Debuggee.follows _ _ c.in-Ok.ensures.told))

pub returns-in-Err-clause-limits : goal.returns-in-Err-clause-limits
returns-in-Err-clause-limits g c = ap (λ (s : Session). s.limits) c.close.ensures.session ∙ limits_at g.D.Debuggee.shown g.D.Debuggee.follows _ _ (to_poll 0) [] c.in-Err.fault (c.in-Err.ensures.halts []) (sym c.fault.ensures.fault ∙ c.in_default.is)

pub returns-in-Err-clause-stops : goal.returns-in-Err-clause-stops
returns-in-Err-clause-stops g c = λ none.
    let before : c.behind-gathered.result ≡ c.args.out.now.items = c.behind-gathered.ensures ∙ ap (λ (v : _). v.items) c.replace.ensures.value in
    subst (λ (x : List ℕ). StopsAfter g.D.Debuggee.shown g.D.Debuggee.follows c.args.self.now (to_poll 0) [] x c.adapter_fault-fault.result c.close.new.self c.into_buffer.result.items) before
    (subst (λ (y : List ℕ). StopsAfter g.D.Debuggee.shown g.D.Debuggee.follows c.args.self.now (to_poll 0) [] c.behind-gathered.result c.adapter_fault-fault.result c.close.new.self y) (sym c.into_buffer.ensures)
    (subst (λ (f : AdapterFault). StopsAfter g.D.Debuggee.shown g.D.Debuggee.follows c.args.self.now (to_poll 0) [] c.behind-gathered.result f c.close.new.self c.polls-told.new.sink) (sym c.adapter_fault-fault.ensures)
    (stopped_after g.D.Debuggee.shown g.D.Debuggee.follows _ _ (to_poll 0) [] c.in-Err.fault (c.in-Err.ensures.halts []) none c.close.new.self c.close.ensures.session c.close.ensures.debuggee)))

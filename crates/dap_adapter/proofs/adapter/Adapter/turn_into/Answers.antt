use Rattle.std.proofs.Common.{refl}
use Rattle.dap_adapter.proofs.Adapting.{handled, none-met}
use Rattle.dap_adapter.proofs.adapter.Adapter.turn_into.Goals as goal

pub returns-in-Ok-clause-done : goal.returns-in-Ok-clause-done
returns-in-Ok-clause-done g c = λ yes.
    let there = c.in-Ok.ensures.done yes in
    record {
      bytes = there.bytes;
      items = there.items;
      holds =
          rw (← c.self.view_is)
          (handled c.histories_grow.ensures c.read_is_in_range.ensures c.each_step_goes_on.ensures c.each_step_stays_within.ensures g.D.Debuggee.shown g.D.Debuggee.follows _ _ there.bytes c.self.inside.session c.turn.new.self refl refl refl
          (none-met c.self.inside.fault c.in_default.not-Some) c.in-Ok.ensures.limits there.holds);
    }

use Rattle.std.proofs.Common.{refl}
use Rattle.dap_adapter.proofs.Adapting.{sees, none-met}
use Rattle.dap_adapter.proofs.adapter.Adapter.poll_into.Goals as goal

pub returns-in-Ok-clause-saw : goal.returns-in-Ok-clause-saw
returns-in-Ok-clause-saw g c =
    let there = c.in-Ok.ensures.carries in
    record {
      bytes = there.bytes;
      items = there.items;
      holds =
          rw (← c.self.view_is)
          (sees c.histories_grow.ensures c.read_is_in_range.ensures c.each_step_goes_on.ensures c.each_step_stays_within.ensures g.D.Debuggee.follows _ _ there.bytes c.self.inside.session c.poll.new.self refl refl refl
          (none-met c.self.inside.fault c.in_default.not-Some) c.in-Ok.ensures.limits there.holds c.in-Ok.ensures.within);
    }

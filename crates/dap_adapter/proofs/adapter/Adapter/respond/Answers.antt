use Rattle.std.proofs.Common.{refl}
use Rattle.dap_adapter.proofs.Adapting.{responds-all}
use Rattle.dap_adapter.proofs.adapter.Adapter.respond.Goals as goal

pub returns-clause-responds : goal.returns-clause-responds
returns-clause-responds g c =
    rw (← c.self.view_is)
    (responds-all c.histories_grow.ensures c.read_is_in_range.ensures c.each_step_goes_on.ensures c.each_step_stays_within.ensures g.D.Debuggee.follows c.args.seq c.args.outcome.now _ _ c.self.inside.session c.respond.new.self c.respond.result c.is_some-closed.result _ _
    c.is_some-closed.ensures refl refl refl refl c.respond.ensures.limits c.respond.ensures.free c.respond.ensures.responds c.respond.ensures.within)

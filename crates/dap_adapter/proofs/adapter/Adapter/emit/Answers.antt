use Rattle.std.proofs.Common.{refl}
use Rattle.dap_adapter.proofs.Adapting.{emits-all}
use Rattle.dap_adapter.proofs.adapter.Adapter.emit.Goals as goal

pub returns-clause-emits : goal.returns-clause-emits
returns-clause-emits g c =
    rw (← c.self.view_is)
    (emits-all c.histories_grow.ensures c.read_is_in_range.ensures c.each_step_goes_on.ensures c.each_step_stays_within.ensures g.D.Debuggee.follows c.args.event.now c.args.body.now _ _ c.self.inside.session c.emit.new.self c.emit.result c.is_some-closed.result _ _
    c.is_some-closed.ensures refl refl refl refl c.emit.ensures.limits c.emit.ensures.free c.emit.ensures.carries c.emit.ensures.within)

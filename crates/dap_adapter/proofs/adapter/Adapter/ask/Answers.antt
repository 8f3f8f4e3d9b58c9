use Rattle.std.proofs.Common.{refl}
use Rattle.dap_adapter.proofs.Adapting.{asks-all}
use Rattle.dap_adapter.proofs.adapter.Adapter.ask.Goals as goal

pub returns-clause-asks : goal.returns-clause-asks
returns-clause-asks g c =
    rw (← c.self.view_is)
    (asks-all c.histories_grow.ensures c.read_is_in_range.ensures c.each_step_goes_on.ensures c.each_step_stays_within.ensures g.D.Debuggee.follows c.args.command.now c.args.arguments _ _ c.self.inside.session c.ask.new.self c.ask.result c.is_some-closed.result _ _
    c.is_some-closed.ensures refl refl refl refl c.ask.ensures.limits c.ask.ensures.free c.ask.ensures.may c.ask.ensures.name c.ask.ensures.carries c.ask.ensures.within)

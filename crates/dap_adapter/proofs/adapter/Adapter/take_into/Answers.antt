use Rattle.std.proofs.Common.{refl, subst}
use Rattle.dap_adapter.specs.Calls.{Takes, TakeRefused}
use Rattle.dap_adapter.specs.AdapterState.{AdapterState, state_of}
use Rattle.dap_adapter.proofs.Adapting.{none-met}
use Rattle.dap_adapter.proofs.Receiving.{received}
use Rattle.dap_adapter.proofs.adapter.Adapter.take_into.Goals as goal

pub returns-in-Ok-clause-takes : goal.returns-in-Ok-clause-takes
returns-in-Ok-clause-takes g c =
    let new : AdapterState _ = record { session = c.receive.new.session.session; intake = c.receive.new.reader.intake; fault = c.self.inside.fault; debuggee = c.receive.new.session.debuggee } in
    let old : AdapterState _ = record { session = c.self.inside.session.session; intake = c.self.inside.reader.intake; fault = c.self.inside.fault; debuggee = c.self.inside.session.debuggee } in
    let there = c.in-Ok.ensures.received in
    record {
      bytes = there.bytes;
      items = there.items;
      holds =
          subst (λ (x : AdapterState _). Takes g.D.Debuggee.follows x c.args.piece.now c.in-Ok.came.used there.bytes c.in-Ok.came.delivered new) c.self.view_is
          (received c.histories_grow.ensures c.read_is_in_range.ensures c.each_step_goes_on.ensures c.each_step_stays_within.ensures g.D.Debuggee.follows old new c.self.inside.session c.receive.new.session c.args.piece.now c.in-Ok.came.used there.bytes c.in-Ok.came.delivered refl refl
          c.in-Ok.ensures.bounds c.in-Ok.ensures.limits (none-met c.self.inside.fault c.in_default.not-Some) there.holds);
    }

pub returns-in-Err-clause-refused : goal.returns-in-Err-clause-refused
returns-in-Err-clause-refused g c = λ _. subst (λ (x : AdapterState _). TakeRefused x.intake (state_of x) c.args.piece.now c.in-Err.fault c.receive.new.session.debuggee) c.self.view_is c.in-Err.ensures.refused

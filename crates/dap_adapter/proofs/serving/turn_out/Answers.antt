use Rattle.std.proofs.Common.{◌≡◌, List, [], ℕ, refl, sym, subst}
use Rattle.dap_plan.specs.Plan.{written_by}
use Rattle.dap_adapter.specs.PrivateServing.{way_of, point_of, Leads}
use Rattle.dap_adapter.specs.Run.{to_turn, to_poll}
use Rattle.dap_adapter.proofs.Leading.{leads_step, leads_still, breaks_at_call, breaks_at_bytes}
use Rattle.dap_adapter.proofs.RunningOn.{turned, idled}
use Rattle.dap_adapter.proofs.serving.turn_out.Goals as goal

pub returns-in-Ok-clause-done : goal.returns-in-Ok-clause-done
returns-in-Ok-clause-done g c = λ yes.
    let gives = c.in-Ok-true.ensures.done c.in-Ok-true.field-0-test in
    leads_step (way_of g.S.Outgoing.puts g.S.Outgoing.refuses g.D.Debuggee.shown g.D.Debuggee.follows) (point_of c.args.channel.now c.args.sink.now c.args.adapter.now) (point_of c.put.new.channel c.put.new.self c.turn_into.new.self) to_turn to_turn [] gives.bytes (written_by c.args.adapter.now.session gives.holds.step.session.made)
    (turned g.D.Debuggee.shown g.D.Debuggee.follows c.args.adapter.now c.turn_into.new.self gives.bytes gives.holds c.in-Ok-true.ensures.open c.in-Ok-true.ensures.limits) gives.holds.step.bytes_are
    (c.in-Ok.ensures.puts c.args.sink.now c.lend-buffer.result.items gives.bytes c.lend-buffer.ensures gives.items)

pub returns-in-Err-put-clause-halts : goal.returns-in-Err-put-clause-halts
returns-in-Err-put-clause-halts g c = λ piece.
    let gives = c.in-Ok-true.ensures.done c.in-Ok-true.field-0-test in
    breaks_at_bytes (way_of g.S.Outgoing.puts g.S.Outgoing.refuses g.D.Debuggee.shown g.D.Debuggee.follows) (point_of c.args.channel.now c.args.sink.now c.args.adapter.now) (point_of c.put.new.channel c.put.new.self c.turn_into.new.self) to_turn to_turn [] piece gives.bytes (written_by c.args.adapter.now.session gives.holds.step.session.made) c.in-Err-put.fault
    (turned g.D.Debuggee.shown g.D.Debuggee.follows c.args.adapter.now c.turn_into.new.self gives.bytes gives.holds c.in-Ok-true.ensures.open c.in-Ok-true.ensures.limits) gives.holds.step.bytes_are gives.holds
    (c.in-Err-put.ensures.refused c.args.sink.now c.lend-buffer.result.items gives.bytes c.lend-buffer.ensures gives.items)

pub returns-in-Ok-false-clause-idle : goal.returns-in-Ok-false-clause-idle
returns-in-Ok-false-clause-idle g c = λ no.
    let idle = c.in-Ok-false.ensures.idle c.in-Ok-false.field-0-test in
    let same : c.restore.new.self ≡ c.args.sink.now = c.restore.ensures c.args.sink.now (subst (λ (xs : List ℕ). g.S.Outgoing.lends c.args.sink.now xs c.lend-buffer.new.self) (sym idle.1) c.lend-buffer.ensures) in
    subst (λ (s : g.row.S.Denot). Leads (way_of g.S.Outgoing.puts g.S.Outgoing.refuses g.D.Debuggee.shown g.D.Debuggee.follows) (point_of c.args.channel.now c.args.sink.now c.args.adapter.now) to_turn [] (point_of c.args.channel.now s c.turn_into.new.self) (to_poll 0)) (sym same)
    (leads_still (way_of g.S.Outgoing.puts g.S.Outgoing.refuses g.D.Debuggee.shown g.D.Debuggee.follows) (point_of c.args.channel.now c.args.sink.now c.args.adapter.now) c.turn_into.new.self to_turn (to_poll 0) [] (idled g.D.Debuggee.shown g.D.Debuggee.follows c.args.adapter.now c.turn_into.new.self idle.0.0 idle.0.1))

pub returns-in-Err-clause-halts : goal.returns-in-Err-clause-halts
returns-in-Err-clause-halts g c = λ piece.
    let same : c.restore-in-Err.new.self ≡ c.args.sink.now = c.restore-in-Err.ensures c.args.sink.now (subst (λ (xs : List ℕ). g.S.Outgoing.lends c.args.sink.now xs c.lend-buffer.new.self) (sym c.in-Err.ensures.buffer) c.lend-buffer.ensures) in
    breaks_at_call (way_of g.S.Outgoing.puts g.S.Outgoing.refuses g.D.Debuggee.shown g.D.Debuggee.follows) (point_of c.args.channel.now c.args.sink.now c.args.adapter.now) (point_of c.args.channel.now c.restore-in-Err.new.self c.turn_into.new.self) to_turn piece _ c.in-Err.fault c.serve_fault.ensures
    (λ o. record { goes_on = λ no. cc; refused = c.in-Err.ensures.refused o; tables = c.in-Err.ensures.tables; debuggee = λ no. cc }) refl same

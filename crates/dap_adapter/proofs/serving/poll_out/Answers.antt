use Rattle.std.proofs.Common.{◌≡◌, List, ℕ, refl, sym, subst, ap, ◌∙◌, length, arith}
use Rattle.dap_decision.specs.Table.{is_phase}
use Rattle.dap_decision.specs.declared.phase.Phase.{Phase}
use Rattle.dap_decision.specs.declared.phase.Phase.TheVariants.{Stopped}
use Rattle.dap_adapter.specs.PrivateServing.{way_of, point_of}
use Rattle.dap_adapter.proofs.Polling.{some_told, none_told, more_told, quiet_told}
use Rattle.dap_adapter.proofs.Telling.{poll_breaks, told_on, told_short}
use Rattle.dap_adapter.proofs.serving.poll_out.Goals as goal

pub returns-in-Err-clause-halts : goal.returns-in-Err-clause-halts
returns-in-Err-clause-halts g c = λ asks.
    let same : c.restore.new.self ≡ c.args.sink.now = c.restore.ensures c.args.sink.now (subst (λ (xs : List ℕ). g.S.Outgoing.lends c.args.sink.now xs c.lend-buffer.new.self) (sym c.in-Err.ensures.buffer) c.lend-buffer.ensures) in
    poll_breaks (way_of g.S.Outgoing.puts g.S.Outgoing.refuses g.D.Debuggee.shown g.D.Debuggee.follows) (point_of c.args.channel.now c.args.sink.now c.args.adapter.now) (point_of c.args.channel.now c.restore.new.self c.poll_into.new.self) asks c.in-Err.fault _ c.serve_fault.ensures c.in-Err.ensures.refused c.in-Err.ensures.tables refl same

pub returns-then-tells-clause-goes : goal.returns-then-tells-clause-goes
returns-then-tells-clause-goes g c = λ asks.
    let gives = c.in_default.ensures.saw in
    let first : c.len-before.result ≡ length c.lend-buffer.result.items = omega (arith, c.len-before.ensures, c.lend-buffer.result.ok) in
    let second : c.len.result ≡ length c.poll_into.new.out.items = omega (arith, c.len.ensures, c.poll_into.new.out.ok) in
    told_on (way_of g.S.Outgoing.puts g.S.Outgoing.refuses g.D.Debuggee.shown g.D.Debuggee.follows) (point_of c.args.channel.now c.args.sink.now c.args.adapter.now) (point_of c.put.new.channel c.put.new.self c.poll_into.new.self) asks gives.bytes gives.holds c.in_default.ensures.open c.in_default.ensures.limits _
    (more_told _ c.is_stopped.result c.poll_into.new.self.session.phase (some_told c.lend-buffer.result.items gives.bytes c.poll_into.new.out.items _ _ gives.items first second c.if-tells.true) (c.is_stopped.ensures ∙ ap (λ (p : Phase). is_phase Stopped p) c.phase.ensures))
    (c.in-Ok.ensures.puts c.args.sink.now c.lend-buffer.result.items gives.bytes c.lend-buffer.ensures gives.items)

pub returns-else-tells-clause-goes : goal.returns-else-tells-clause-goes
returns-else-tells-clause-goes g c = λ asks.
    let gives = c.in_default.ensures.saw in
    let first : c.len-before.result ≡ length c.lend-buffer.result.items = omega (arith, c.len-before.ensures, c.lend-buffer.result.ok) in
    let second : c.len.result ≡ length c.poll_into.new.out.items = omega (arith, c.len.ensures, c.poll_into.new.out.ok) in
    told_on (way_of g.S.Outgoing.puts g.S.Outgoing.refuses g.D.Debuggee.shown g.D.Debuggee.follows) (point_of c.args.channel.now c.args.sink.now c.args.adapter.now) (point_of c.put.new.channel c.put.new.self c.poll_into.new.self) asks gives.bytes gives.holds c.in_default.ensures.open c.in_default.ensures.limits _
    (quiet_told _ _ _ c.poll_into.new.self.session.phase c.if-tells.false (none_told c.lend-buffer.result.items gives.bytes c.poll_into.new.out.items _ _ gives.items first second c.if-tells.false))
    (c.in-Ok.ensures.puts c.args.sink.now c.lend-buffer.result.items gives.bytes c.lend-buffer.ensures gives.items)

pub returns-in-Err-put-clause-halts : goal.returns-in-Err-put-clause-halts
returns-in-Err-put-clause-halts g c = λ asks.
    let gives = c.in_default.ensures.saw in
    told_short (way_of g.S.Outgoing.puts g.S.Outgoing.refuses g.D.Debuggee.shown g.D.Debuggee.follows) (point_of c.args.channel.now c.args.sink.now c.args.adapter.now) (point_of c.put.new.channel c.put.new.self c.poll_into.new.self) asks gives.bytes gives.holds c.in_default.ensures.open c.in_default.ensures.limits c.in-Err-put.fault
    (c.in-Err-put.ensures.refused c.args.sink.now c.lend-buffer.result.items gives.bytes c.lend-buffer.ensures gives.items)

use Rattle.std.proofs.Common.{◌≡◌, List, ℕ, [], ◌++◌, take, false, refl, sym, subst, ap, ◌∙◌, append-nil}
use Rattle.std.specs.Prelude.{is_some}
use Rattle.dap_adapter.specs.PrivateServing.{way_of, point_of, Leads}
use Rattle.dap_adapter.specs.Run.{to_take, to_turn}
use Rattle.dap_adapter.proofs.Handing.{came_leads, came_breaks, none_leads, none_written}
use Rattle.dap_adapter.proofs.Leading.{breaks_at_call}
use Rattle.dap_adapter.proofs.serving.take_out.Goals as goal

pub returns-in-Err-clause-halts : goal.returns-in-Err-clause-halts
returns-in-Err-clause-halts g c = λ going.
    let same : c.restore.new.self ≡ c.args.sink.now = c.restore.ensures c.args.sink.now (subst (λ (xs : List ℕ). g.S.Outgoing.lends c.args.sink.now xs c.lend-buffer.new.self) (sym c.in-Err.ensures.buffer) c.lend-buffer.ensures) in
    breaks_at_call (way_of g.S.Outgoing.puts g.S.Outgoing.refuses g.D.Debuggee.shown g.D.Debuggee.follows) (point_of c.args.channel.now c.args.sink.now c.args.adapter.now) (point_of c.args.channel.now c.restore.new.self c.take_into.new.self) to_take c.args.piece.now _ c.in-Err.fault c.serve_fault.ensures
    (λ o. record { goes_on = λ at. going; refused = c.in-Err.ensures.refused o; tables = c.in-Err.ensures.tables; debuggee = λ at. c.in-Err.ensures.debuggee }) refl same

pub returns-in-Ok-put-clause-came : goal.returns-in-Ok-put-clause-came
returns-in-Ok-put-clause-came g c = λ going.
    let gives = c.in-Ok.ensures.takes in
    subst (λ (n : ℕ). Leads (way_of g.S.Outgoing.puts g.S.Outgoing.refuses g.D.Debuggee.shown g.D.Debuggee.follows) (point_of c.args.channel.now c.args.sink.now c.args.adapter.now) to_take (take n c.args.piece.now) (point_of c.put.new.channel c.put.new.self c.take_into.new.self) to_turn) (sym c.how_far.ensures.used)
    (came_leads (way_of g.S.Outgoing.puts g.S.Outgoing.refuses g.D.Debuggee.shown g.D.Debuggee.follows) (point_of c.args.channel.now c.args.sink.now c.args.adapter.now) c.take_into.new.self c.args.piece.now c.in-Ok.came.used gives.bytes c.each_stream_has_one_split.ensures going c.in-Ok.ensures.open c.in-Ok.ensures.limits c.in-Ok.came.delivered gives.holds (sym c.how_far.ensures.has_come ∙ c.if-has_come.true) c.put.new.channel c.put.new.self
    (c.in-Ok-put.ensures.puts c.args.sink.now c.lend-buffer.result.items gives.bytes c.lend-buffer.ensures gives.items))

pub returns-in-Err-put-clause-halts : goal.returns-in-Err-put-clause-halts
returns-in-Err-put-clause-halts g c = λ going.
    let gives = c.in-Ok.ensures.takes in
    came_breaks (way_of g.S.Outgoing.puts g.S.Outgoing.refuses g.D.Debuggee.shown g.D.Debuggee.follows) (point_of c.args.channel.now c.args.sink.now c.args.adapter.now) c.take_into.new.self c.args.piece.now c.in-Ok.came.used gives.bytes c.each_stream_has_one_split.ensures going c.in-Ok.ensures.open c.in-Ok.ensures.limits c.in-Ok.came.delivered gives.holds (sym c.how_far.ensures.has_come ∙ c.if-has_come.true) c.put.new.channel c.put.new.self c.in-Err-put.fault
    (c.in-Err-put.ensures.refused c.args.sink.now c.lend-buffer.result.items gives.bytes c.lend-buffer.ensures gives.items)

pub returns-clause-came : goal.returns-clause-came
returns-clause-came g c = λ going.
    let gives = c.in-Ok.ensures.takes in
    let none : is_some c.in-Ok.came.delivered ≡ false = sym c.how_far.ensures.has_come ∙ c.if-has_come.false in
    let empty : gives.bytes ≡ [] = none_written (way_of g.S.Outgoing.puts g.S.Outgoing.refuses g.D.Debuggee.shown g.D.Debuggee.follows) (point_of c.args.channel.now c.args.sink.now c.args.adapter.now) c.take_into.new.self c.args.piece.now c.in-Ok.came.used gives.bytes c.each_stream_has_one_split.ensures going c.in-Ok.ensures.open c.in-Ok.ensures.limits c.in-Ok.came.delivered gives.holds none in
    let items : c.take_into.new.out.items ≡ c.lend-buffer.result.items = gives.items ∙ (ap (λ (xs : List ℕ). c.lend-buffer.result.items ++ xs) empty ∙ append-nil c.lend-buffer.result.items) in
    let same : c.restore-2.new.self ≡ c.args.sink.now = c.restore-2.ensures c.args.sink.now (subst (λ (xs : List ℕ). g.S.Outgoing.lends c.args.sink.now xs c.lend-buffer.new.self) (sym items) c.lend-buffer.ensures) in
    subst (λ (s : g.row.S.Denot). Leads (way_of g.S.Outgoing.puts g.S.Outgoing.refuses g.D.Debuggee.shown g.D.Debuggee.follows) (point_of c.args.channel.now c.args.sink.now c.args.adapter.now) to_take (take c.how_far.result.0 c.args.piece.now) (point_of c.args.channel.now s c.take_into.new.self) to_take) (sym same)
    (subst (λ (n : ℕ). Leads (way_of g.S.Outgoing.puts g.S.Outgoing.refuses g.D.Debuggee.shown g.D.Debuggee.follows) (point_of c.args.channel.now c.args.sink.now c.args.adapter.now) to_take (take n c.args.piece.now) (point_of c.args.channel.now c.args.sink.now c.take_into.new.self) to_take) (sym c.how_far.ensures.used)
    (none_leads (way_of g.S.Outgoing.puts g.S.Outgoing.refuses g.D.Debuggee.shown g.D.Debuggee.follows) (point_of c.args.channel.now c.args.sink.now c.args.adapter.now) c.take_into.new.self c.args.piece.now c.in-Ok.came.used gives.bytes c.each_stream_has_one_split.ensures going c.in-Ok.ensures.open c.in-Ok.ensures.limits c.in-Ok.came.delivered gives.holds none))

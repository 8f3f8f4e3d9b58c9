use Rattle.std.proofs.Common.{List, ℕ, [], take, drop, subst, append-nil}
use Rattle.std.proofs.lemmas.List.{take-append-drop}
use Rattle.dap_adapter.specs.PrivateServing.{way_of, point_of, Leads, Breaks}
use Rattle.dap_adapter.specs.Run.{to_take, to_turn}
use Rattle.dap_adapter.proofs.Leading.{leads_then, leads_breaks}
use Rattle.dap_adapter.proofs.serving.serve_frame.Goals as goal

pub returns-in-Ok-clause-uses : goal.returns-in-Ok-clause-uses
returns-in-Ok-clause-uses g c = λ going.
    let came = rw c.in-Ok-default-true.field-0-1-test at (c.in-Ok-default-true.ensures.came going) in
    subst (λ (z : List ℕ). Leads (way_of g.S.Outgoing.puts g.S.Outgoing.refuses g.D.Debuggee.shown g.D.Debuggee.follows) (point_of c.args.channel.now c.args.sink.now c.args.adapter.now) to_take z (point_of c.handle.new.channel c.handle.new.sink c.handle.new.adapter) to_take) (append-nil (take c.in-Ok-default-true.used c.args.piece.now))
    (leads_then (way_of g.S.Outgoing.puts g.S.Outgoing.refuses g.D.Debuggee.shown g.D.Debuggee.follows) (point_of c.args.channel.now c.args.sink.now c.args.adapter.now) (point_of c.take_out.new.channel c.take_out.new.sink c.take_out.new.adapter) (point_of c.handle.new.channel c.handle.new.sink c.handle.new.adapter) to_take to_turn to_take (take c.in-Ok-default-true.used c.args.piece.now) [] came c.in-Ok.ensures.handled)

pub returns-in-Err-handle-clause-halts : goal.returns-in-Err-handle-clause-halts
returns-in-Err-handle-clause-halts g c = λ going.
    let came = rw c.in-Ok-default-true.field-0-1-test at (c.in-Ok-default-true.ensures.came going) in
    subst (λ (z : List ℕ). Breaks (way_of g.S.Outgoing.puts g.S.Outgoing.refuses g.D.Debuggee.shown g.D.Debuggee.follows) (point_of c.args.channel.now c.args.sink.now c.args.adapter.now) to_take z (point_of c.handle.new.channel c.handle.new.sink c.handle.new.adapter) c.in-Err-handle.fault) (take-append-drop c.in-Ok-default-true.used c.args.piece.now)
    (leads_breaks (way_of g.S.Outgoing.puts g.S.Outgoing.refuses g.D.Debuggee.shown g.D.Debuggee.follows) (point_of c.args.channel.now c.args.sink.now c.args.adapter.now) (point_of c.take_out.new.channel c.take_out.new.sink c.take_out.new.adapter) (point_of c.handle.new.channel c.handle.new.sink c.handle.new.adapter) to_take to_turn (take c.in-Ok-default-true.used c.args.piece.now) (drop c.in-Ok-default-true.used c.args.piece.now) c.in-Err-handle.fault came (c.in-Err-handle.ensures.halts (drop c.in-Ok-default-true.used c.args.piece.now)))

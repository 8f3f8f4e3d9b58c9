use Rattle.std.proofs.Common.{[]}
use Rattle.dap_adapter.specs.PrivateServing.{way_of, point_of}
use Rattle.dap_adapter.specs.Run.{to_turn, to_poll}
use Rattle.dap_adapter.proofs.Leading.{leads_none, leads_then, leads_breaks}
use Rattle.dap_adapter.proofs.serving.turns.Goals as goal

pub turns-init : goal.turns-init
turns-init g c = leads_none (way_of g.S.Outgoing.puts g.S.Outgoing.refuses g.D.Debuggee.shown g.D.Debuggee.follows) (point_of c.args.channel.now c.args.sink.now c.args.adapter.now) to_turn

pub turns-preserved : goal.turns-preserved
turns-preserved g c = leads_then (way_of g.S.Outgoing.puts g.S.Outgoing.refuses g.D.Debuggee.shown g.D.Debuggee.follows) (point_of c.args.channel.now c.args.sink.now c.args.adapter.now) (point_of c.turns.channel c.turns.sink c.turns.adapter) (point_of c.turn_out.new.channel c.turn_out.new.sink c.turn_out.new.adapter) to_turn to_turn to_turn [] [] c.turns.invariant (c.in-Ok-true.ensures.done c.in-Ok-true.field-0-test)

pub returns-in-Ok-false-clause-idle : goal.returns-in-Ok-false-clause-idle
returns-in-Ok-false-clause-idle g c = leads_then (way_of g.S.Outgoing.puts g.S.Outgoing.refuses g.D.Debuggee.shown g.D.Debuggee.follows) (point_of c.args.channel.now c.args.sink.now c.args.adapter.now) (point_of c.turns.channel c.turns.sink c.turns.adapter) (point_of c.turn_out.new.channel c.turn_out.new.sink c.turn_out.new.adapter) to_turn to_turn (to_poll 0) [] [] c.turns.invariant (c.in-Ok-false.ensures.idle c.in-Ok-false.field-0-test)

pub returns-in-Err-clause-halts : goal.returns-in-Err-clause-halts
returns-in-Err-clause-halts g c = λ piece. leads_breaks (way_of g.S.Outgoing.puts g.S.Outgoing.refuses g.D.Debuggee.shown g.D.Debuggee.follows) (point_of c.args.channel.now c.args.sink.now c.args.adapter.now) (point_of c.turns.channel c.turns.sink c.turns.adapter) (point_of c.turn_out.new.channel c.turn_out.new.sink c.turn_out.new.adapter) to_turn to_turn [] piece c.in-Err.fault c.turns.invariant (c.in-Err.ensures.halts piece)

use Rattle.std.proofs.Common.{[]}
use Rattle.dap_adapter.specs.PrivateServing.{way_of, point_of}
use Rattle.dap_adapter.specs.Run.{to_take, to_turn, to_poll}
use Rattle.dap_adapter.proofs.Leading.{leads_then, leads_breaks}
use Rattle.dap_adapter.proofs.serving.handle.Goals as goal

pub returns-in-Ok-clause-handled : goal.returns-in-Ok-clause-handled
returns-in-Ok-clause-handled g c = leads_then (way_of g.S.Outgoing.puts g.S.Outgoing.refuses g.D.Debuggee.shown g.D.Debuggee.follows) (point_of c.args.channel.now c.args.sink.now c.args.adapter.now) (point_of c.turns.new.channel c.turns.new.sink c.turns.new.adapter) (point_of c.polls.new.channel c.polls.new.sink c.polls.new.adapter) to_turn (to_poll 0) to_take [] [] c.in_default.ensures.idle c.in-Ok.ensures.told.leads

pub returns-in-Err-polls-clause-halts : goal.returns-in-Err-polls-clause-halts
returns-in-Err-polls-clause-halts g c = λ piece.
    leads_breaks (way_of g.S.Outgoing.puts g.S.Outgoing.refuses g.D.Debuggee.shown g.D.Debuggee.follows) (point_of c.args.channel.now c.args.sink.now c.args.adapter.now) (point_of c.turns.new.channel c.turns.new.sink c.turns.new.adapter) (point_of c.polls.new.channel c.polls.new.sink c.polls.new.adapter) to_turn (to_poll 0) [] piece c.in-Err-polls.fault c.in_default.ensures.idle (c.in-Err-polls.ensures.halts piece)

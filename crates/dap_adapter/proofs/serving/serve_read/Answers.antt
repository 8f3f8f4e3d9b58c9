use Rattle.std.proofs.Common.{◌++◌}
use Rattle.dap_adapter.specs.PrivateServing.{served_by, sink_of, progress_of, point_of}
use Rattle.dap_adapter.proofs.Ending.{through_sent, through_short, write_serves, halts_sent, halts_short}
use Rattle.dap_adapter.proofs.Reaching.{through, halts_at}
use Rattle.dap_adapter.proofs.serving.serve_read.Goals as goal

pub returns-in-Ok-send-clause-uses_up : goal.returns-in-Ok-send-clause-uses_up
returns-in-Ok-send-clause-uses_up g c = λ b n used rest going r.
    through_sent (served_by g.C.Channel.goes g.D.Debuggee.shown g.D.Debuggee.follows b) c.calls_add_up.ensures (progress_of c.serve_piece.new.channel c.serve_piece.new.adapter c.serve_piece.new.sink) (sink_of c.send.new.channel c.send.new.self) (record { count = n; bytes = used ++ c.args.piece.now }) _ (through (served_by g.C.Channel.goes g.D.Debuggee.shown g.D.Debuggee.follows b) c.calls_add_up.ensures (point_of c.args.channel.now c.args.outlet.now c.args.adapter.now) (point_of c.serve_piece.new.channel c.serve_piece.new.sink c.serve_piece.new.adapter) n used c.args.piece.now rest c.in-Ok.ended going r (c.in-Ok.ensures.uses_up going)) c.in-Ok-send.ensures.sent c.in-Ok-send.ensures.none c.in-Ok-send.ensures.count

pub returns-in-Err-send-clause-stops : goal.returns-in-Err-send-clause-stops
returns-in-Err-send-clause-stops g c = λ b n used rest few going r.
    through_short (served_by g.C.Channel.goes g.D.Debuggee.shown g.D.Debuggee.follows b) c.calls_add_up.ensures (progress_of c.serve_piece.new.channel c.serve_piece.new.adapter c.serve_piece.new.sink) (sink_of c.send.new.channel c.send.new.self) (record { count = n; bytes = used ++ c.args.piece.now }) c.in-Ok.ended c.in-Err-send.fault few (through (served_by g.C.Channel.goes g.D.Debuggee.shown g.D.Debuggee.follows b) c.calls_add_up.ensures (point_of c.args.channel.now c.args.outlet.now c.args.adapter.now) (point_of c.serve_piece.new.channel c.serve_piece.new.sink c.serve_piece.new.adapter) n used c.args.piece.now rest c.in-Ok.ended going r (c.in-Ok.ensures.uses_up going)) c.in-Err-send.ensures.short

pub returns-in-Write-clause-stops : goal.returns-in-Write-clause-stops
returns-in-Write-clause-stops g c = λ b n used rest few going r.
    write_serves (served_by g.C.Channel.goes g.D.Debuggee.shown g.D.Debuggee.follows b) (sink_of c.serve_piece.new.channel c.serve_piece.new.sink) (record { count = n; bytes = used ++ c.args.piece.now }) c.in-Write.written c.in-Err.fault few c.in-Write.is (halts_at (served_by g.C.Channel.goes g.D.Debuggee.shown g.D.Debuggee.follows b) c.calls_add_up.ensures (point_of c.args.channel.now c.args.outlet.now c.args.adapter.now) (point_of c.serve_piece.new.channel c.serve_piece.new.sink c.serve_piece.new.adapter) n used c.args.piece.now rest c.in-Err.fault going r (c.in-Err.ensures.halts going))

pub returns-in-Ok-send-2 : goal.returns-in-Ok-send-2
returns-in-Ok-send-2 g c = record {
  uses_up = tt;
  none_left = tt;
  stops = λ b n used rest few going r.
      halts_sent (served_by g.C.Channel.goes g.D.Debuggee.shown g.D.Debuggee.follows b) c.calls_add_up.ensures (sink_of c.serve_piece.new.channel c.serve_piece.new.sink) (sink_of c.send-in_default.new.channel c.send-in_default.new.self) (record { count = n; bytes = used ++ c.args.piece.now }) c.in-Err.fault few c.in_default.not-Write (halts_at (served_by g.C.Channel.goes g.D.Debuggee.shown g.D.Debuggee.follows b) c.calls_add_up.ensures (point_of c.args.channel.now c.args.outlet.now c.args.adapter.now) (point_of c.serve_piece.new.channel c.serve_piece.new.sink c.serve_piece.new.adapter) n used c.args.piece.now rest c.in-Err.fault going r (c.in-Err.ensures.halts going))
      c.in-Ok-send-2.ensures.sent c.in-Ok-send-2.ensures.none c.in-Ok-send-2.ensures.count;
}

pub returns-in-Err-send-2 : goal.returns-in-Err-send-2
returns-in-Err-send-2 g c = record {
  uses_up = tt;
  none_left = tt;
  stops = λ b n used rest few going r.
      halts_short (served_by g.C.Channel.goes g.D.Debuggee.shown g.D.Debuggee.follows b) c.calls_add_up.ensures (sink_of c.serve_piece.new.channel c.serve_piece.new.sink) (sink_of c.send-in_default.new.channel c.send-in_default.new.self) (record { count = n; bytes = used ++ c.args.piece.now }) c.in-Err.fault c.in-Err-send-2.short few c.in_default.not-Write (halts_at (served_by g.C.Channel.goes g.D.Debuggee.shown g.D.Debuggee.follows b) c.calls_add_up.ensures (point_of c.args.channel.now c.args.outlet.now c.args.adapter.now) (point_of c.serve_piece.new.channel c.serve_piece.new.sink c.serve_piece.new.adapter) n used c.args.piece.now rest c.in-Err.fault going r (c.in-Err.ensures.halts going))
      c.in-Err-send-2.ensures.short;
}

use Rattle.std.proofs.Common.{refl}
use Rattle.dap_adapter.specs.Served.{Start}
use Rattle.dap_adapter.specs.PrivateServing.{served_by, sink_of}
use Rattle.dap_adapter.proofs.Ending.{begun, not_begun}
use Rattle.dap_adapter.proofs.serving.serve_channel.Goals as goal

pub returns-in_default : goal.returns-in_default
returns-in_default g c = not_begun (served_by g.C.Channel.goes g.D.Debuggee.shown g.D.Debuggee.follows (record { limits = c.args.limits; most = c.args.max_reads; channel = c.args.channel.now; debuggee = c.args.debuggee })) c.each_stream_has_one_split.ensures

pub serve_reads-requires-clause-going : goal.serve_reads-requires-clause-going
serve_reads-requires-clause-going g c = rw c.in-Ok.ensures.session refl

pub returns-in-Ok-serve_reads : goal.returns-in-Ok-serve_reads
returns-in-Ok-serve_reads g c =
    let b : Start _ _ = record { limits = c.args.limits; most = c.args.max_reads; channel = c.args.channel.now; debuggee = c.args.debuggee } in
    c.in-Ok-serve_reads.ensures b refl (begun (served_by g.C.Channel.goes g.D.Debuggee.shown g.D.Debuggee.follows b) c.each_stream_has_one_split.ensures c.in-Ok.adapter (sink_of c.args.channel.now c.new-outlet.result) c.in-Ok.ensures.stands c.in-Ok.ensures.session c.in-Ok.ensures.debuggee refl c.new-outlet.ensures.gathered c.new-outlet.ensures.written)

pub returns : goal.returns
returns g c =
    let b : Start _ _ = record { limits = c.args.limits; most = c.args.max_reads; channel = c.args.channel.now; debuggee = c.args.debuggee } in
    c.in-Err.ensures b refl (begun (served_by g.C.Channel.goes g.D.Debuggee.shown g.D.Debuggee.follows b) c.each_stream_has_one_split.ensures c.in-Ok.adapter (sink_of c.args.channel.now c.new-outlet.result) c.in-Ok.ensures.stands c.in-Ok.ensures.session c.in-Ok.ensures.debuggee refl c.new-outlet.ensures.gathered c.new-outlet.ensures.written)

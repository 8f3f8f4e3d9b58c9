use Rattle.std.proofs.Common.{◌≡◌, ◌≤◌, ◌<◌, [], length, take, ◌+◌, ◌++◌, refl, ap, arith}
use Rattle.std.proofs.lemmas.List.{length-take}
use Rattle.dap_adapter.specs.PrivateServing.{served_by, progress_of}
use Rattle.dap_adapter.proofs.Ending.{piece_read, at_next, ended_through, read_failed, no_reads_left, at_end}
use Rattle.dap_adapter.proofs.serving.serve_reads.Goals as goal

pub loop-read-init : goal.loop-read-init
loop-read-init g c = record {
  none = c.requires.none;
  reads = λ b most r. record { used = []; rest = []; going = c.requires.going; reaches = r };
}

pub returns-in_default : goal.returns-in_default
returns-in_default g c = λ b most r.
    let a = c.loop-read.invariant.reads b most r in
    let few : c.loop-read._read < b.most = omega (arith, most) in
    read_failed (served_by g.C.Channel.goes g.D.Debuggee.shown g.D.Debuggee.follows b) (progress_of c.loop-read.channel c.loop-read.adapter c.loop-read.outlet) c.loop-read._read a.used a.rest a.reaches c.loop-read.invariant.none a.going _ few c.in_default.ensures.err

pub returns-then-n-eq0 : goal.returns-then-n-eq0
returns-then-n-eq0 g c = λ b most r.
    let a = c.loop-read.invariant.reads b most r in
    let few : c.loop-read._read < b.most = omega (arith, most) in
    at_end (served_by g.C.Channel.goes g.D.Debuggee.shown g.D.Debuggee.follows b) (progress_of c.loop-read.channel c.loop-read.adapter c.loop-read.outlet) c.loop-read._read a.used a.rest a.reaches c.loop-read.invariant.none a.going _ _ _ _ few c.in-Ok.ensures.ok (ap (λ j. take j c.read.new.buf) c.if-n-eq0.true) (omega (arith, c.read.auto.buf))
    c.finish.ensures.ends (c.finish.ensures.open a.reaches.handles.stands.no_fault) c.phase.ensures

pub loop-read-preserved : goal.loop-read-preserved
loop-read-preserved g c = record {
  none = c.in-Ok-serve_read.ensures.none_left;
  reads = λ b most r.
      let a = c.loop-read.invariant.reads b most r in
      let there = piece_read (served_by g.C.Channel.goes g.D.Debuggee.shown g.D.Debuggee.follows b) (progress_of c.loop-read.channel c.loop-read.adapter c.loop-read.outlet) c.loop-read._read _ _ _ c.split_at.result.0.now a c.loop-read.invariant.none c.in-Ok.ensures.ok c.split_at.ensures.front (omega (arith, c.if-n-eq0.false, c.in-Ok.ensures.bound, ap length c.split_at.ensures.front, length-take c.in-Ok.n c.read.new.buf, c.read.auto.buf)) (omega (arith, ap length c.split_at.ensures.front, length-take c.in-Ok.n c.read.new.buf, c.read.auto.buf)) in
      at_next (served_by g.C.Channel.goes g.D.Debuggee.shown g.D.Debuggee.follows b) _ (record { count = c.loop-read._read + 1; bytes = a.used ++ c.split_at.result.0.now }) c.in-Ok-serve_read.ended c.if-ended.false (c.in-Ok-serve_read.ensures.uses_up b (c.loop-read._read + 1) a.used a.rest a.going there);
}

pub returns-then-ended : goal.returns-then-ended
returns-then-ended g c = λ b most r.
    let a = c.loop-read.invariant.reads b most r in
    let few : c.loop-read._read + 1 ≤ b.most = omega (arith, most) in
    let there = piece_read (served_by g.C.Channel.goes g.D.Debuggee.shown g.D.Debuggee.follows b) (progress_of c.loop-read.channel c.loop-read.adapter c.loop-read.outlet) c.loop-read._read _ _ _ c.split_at.result.0.now a c.loop-read.invariant.none c.in-Ok.ensures.ok c.split_at.ensures.front (omega (arith, c.if-n-eq0.false, c.in-Ok.ensures.bound, ap length c.split_at.ensures.front, length-take c.in-Ok.n c.read.new.buf, c.read.auto.buf)) (omega (arith, ap length c.split_at.ensures.front, length-take c.in-Ok.n c.read.new.buf, c.read.auto.buf)) in
    ended_through (served_by g.C.Channel.goes g.D.Debuggee.shown g.D.Debuggee.follows b) (progress_of c.serve_read.new.channel c.serve_read.new.adapter c.serve_read.new.outlet) (record { count = c.loop-read._read + 1; bytes = a.used ++ c.split_at.result.0.now }) _ c.in-Ok-serve_read.ended c.if-ended.true few (c.in-Ok-serve_read.ensures.uses_up b (c.loop-read._read + 1) a.used a.rest a.going there)
    c.in-Ok-serve_read.ensures.none_left refl c.phase-then-ended.ensures

pub returns-in-Err : goal.returns-in-Err
returns-in-Err g c = λ b most r.
    let a = c.loop-read.invariant.reads b most r in
    let few : c.loop-read._read + 1 ≤ b.most = omega (arith, most) in
    let there = piece_read (served_by g.C.Channel.goes g.D.Debuggee.shown g.D.Debuggee.follows b) (progress_of c.loop-read.channel c.loop-read.adapter c.loop-read.outlet) c.loop-read._read _ _ _ c.split_at.result.0.now a c.loop-read.invariant.none c.in-Ok.ensures.ok c.split_at.ensures.front (omega (arith, c.if-n-eq0.false, c.in-Ok.ensures.bound, ap length c.split_at.ensures.front, length-take c.in-Ok.n c.read.new.buf, c.read.auto.buf)) (omega (arith, ap length c.split_at.ensures.front, length-take c.in-Ok.n c.read.new.buf, c.read.auto.buf)) in
    c.in-Err.ensures.stops b (c.loop-read._read + 1) a.used a.rest few a.going there

pub returns : goal.returns
returns g c = λ b most r.
    let a = c.loop-read.invariant.reads b most r in
    let all : c.loop-read._read ≡ b.most = omega (arith, most) in
    no_reads_left (served_by g.C.Channel.goes g.D.Debuggee.shown g.D.Debuggee.follows b) (progress_of c.loop-read.channel c.loop-read.adapter c.loop-read.outlet) c.loop-read._read a.used a.rest a.reaches c.loop-read.invariant.none a.going all

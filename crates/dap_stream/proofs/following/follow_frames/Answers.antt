use Rattle.std.proofs.Common.{◌≡◌, ◌<◌, ◌≤◌, length, take, sym, ap, subst, arith}
use Rattle.std.proofs.lemmas.List.{length-take}
use Rattle.dap_channel.specs.Channel.{Gave}
use Rattle.dap_stream.proofs.FollowLemmas.{came, failed_read, ended, too_long}
use Rattle.dap_stream.proofs.following.follow_frames.Goals as goal

pub returns-in_default : goal.returns-in_default
returns-in_default g c = λ limits first.
    failed_read g.C.Channel.goes c.calls_add_up.ensures c.args.style limits c.args.most c.args.channel.now c.pieces.channel c.read.new.self c.pieces.frames c.pieces.bytes.items c.pieces.out.items c.pieces.refused (c.pieces.invariant.came limits first) (omega (arith, c.pieces-test.true, c.len.ensures, c.pieces.bytes.ok)) c.in_default.ensures.err

pub returns-then-n-eq0 : goal.returns-then-n-eq0
returns-then-n-eq0 g c = λ limits first.
    ended g.C.Channel.goes c.calls_add_up.ensures c.args.style limits c.args.most c.args.channel.now c.pieces.channel c.read.new.self c.pieces.frames c.pieces.bytes.items c.pieces.out.items (length c.read.new.buf) (take c.in-Ok.n c.read.new.buf) c.pieces.refused c.finish-end.result (c.pieces.invariant.came limits first)
    (omega (arith, c.read.auto.buf)) (ap (λ j. take j c.read.new.buf) c.if-n-eq0.true) (omega (arith, c.pieces-test.true, c.len.ensures, c.pieces.bytes.ok)) c.in-Ok.ensures.ok
    c.finish-end.ensures.ends (c.finish-end.ensures.under_way c.pieces.invariant.under_way)

pub pieces-preserved : goal.pieces-preserved
pieces-preserved g c =
    let piece = c.split_at.result.0.now in
    let some : 0 < length piece = omega (arith, c.if-n-eq0.false, c.in-Ok.ensures.bound, ap length c.split_at.ensures.front, length-take c.in-Ok.n c.read.new.buf, c.read.auto.buf) in
    let gave = subst (λ p. g.C.Channel.goes c.pieces.channel (Gave (length c.read.new.buf) p) c.read.new.self) (sym c.split_at.ensures.front) c.in-Ok.ensures.ok in
    record {
      under_way = c.in-Ok-follow_piece.ensures.under_way;
      came = λ limits first. c.in-Ok-follow_piece.ensures.goes_on limits c.args.channel.now c.args.most
          (came g.C.Channel.goes c.calls_add_up.ensures c.args.style limits c.args.most c.args.channel.now c.pieces.channel c.read.new.self c.pieces.frames c.pieces.bytes.items piece c.pieces.out.items (length c.read.new.buf) c.pieces.refused (c.pieces.invariant.came limits first) (omega (arith, c.pieces-test.true, c.len.ensures, c.pieces.bytes.ok)) some gave);
    }

pub returns-in-Err : goal.returns-in-Err
returns-in-Err g c = λ limits first.
    let piece = c.split_at.result.0.now in
    let some : 0 < length piece = omega (arith, c.if-n-eq0.false, c.in-Ok.ensures.bound, ap length c.split_at.ensures.front, length-take c.in-Ok.n c.read.new.buf, c.read.auto.buf) in
    let gave = subst (λ p. g.C.Channel.goes c.pieces.channel (Gave (length c.read.new.buf) p) c.read.new.self) (sym c.split_at.ensures.front) c.in-Ok.ensures.ok in
    c.in-Err.ensures.stops limits c.args.channel.now c.args.most
    (came g.C.Channel.goes c.calls_add_up.ensures c.args.style limits c.args.most c.args.channel.now c.pieces.channel c.read.new.self c.pieces.frames c.pieces.bytes.items piece c.pieces.out.items (length c.read.new.buf) c.pieces.refused (c.pieces.invariant.came limits first) (omega (arith, c.pieces-test.true, c.len.ensures, c.pieces.bytes.ok)) some gave)

pub returns : goal.returns
returns g c = λ limits first.
    too_long g.C.Channel.goes c.calls_add_up.ensures c.args.style limits c.args.most c.args.channel.now c.pieces.channel c.pieces.frames c.pieces.bytes.items c.pieces.out.items c.pieces.refused (c.pieces.invariant.came limits first) (omega (arith, c.pieces-test.false, c.len.ensures, c.pieces.bytes.ok))

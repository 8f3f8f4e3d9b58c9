use Rattle.std.proofs.Common.{refl, inl, ◌∙◌, ◌≤◌, length, arith}
use Rattle.std.proofs.lemmas.Option.{slice_get_read}
use Rattle.dap_replay.proofs.Outputs.{left_next}
use Rattle.dap_replay.proofs.run.skipped.Goals as goal

pub loop-going-preserved : goal.loop-going-preserved
loop-going-preserved c =
    let within : c.loop-going.going.moment ≤ c.loop-going.going.last = omega (arith, c.loop-going-test.true) in
    let past : length c.in-Some.moment.now.output ≤ c.loop-going.going.told = omega (arith, c.if-going-len.false, c.len.ensures) in
    (inl refl, left_next c.args.moments.now c.loop-going.going c.in-Some.moment.now within (slice_get_read c.args.moments.now (length c.args.moments.now) c.loop-going.going.moment c.in-Some.moment.now refl c.in-Some.ensures.lookup.3.0 c.in-Some.ensures.lookup.1) past ∙ c.loop-going.invariant.1, c.loop-going.invariant.2, c.loop-going.invariant.3)

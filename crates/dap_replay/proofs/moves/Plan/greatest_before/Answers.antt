use Rattle.std.proofs.Common.{◌-◌, ◌<◌, take, ◌∙◌, sym, ap, arith}
use Rattle.dap_replay.specs.Moves.{passes, last_place}
use Rattle.dap_replay.specs.Played.{lines_in}
use Rattle.dap_replay.proofs.Places.{last_before, last_is, last_is_not}
use Rattle.dap_replay.proofs.moves.Plan.greatest_before.Goals as goal

pub returns-then-passes-clause-place : goal.returns-then-passes-clause-place
returns-then-passes-clause-place c =
    let test = passes c.args.self.now.sources.now (lines_in c.args.self.now.set.now) c.args.wanted in
    let some : 0 < c.loop-k.k = omega (arith, c.loop-k-test.true) in
    let here = last_before test c.loop-k.k c.args.self.now.moments.now c.index-self-k.result some (omega (arith, some, c.loop-k.invariant)) c.index-self-k.is in
    sym (last_is _ (c.loop-k.k - 1) (last_place test (take (c.loop-k.k - 1) c.args.self.now.moments.now)) (ap test c.index-self-k.is ∙ sym c.passes.ensures ∙ c.if-passes.true)) ∙ sym here ∙ c.loop-k.invariant.2

pub loop-k-preserved : goal.loop-k-preserved
loop-k-preserved c =
    let test = passes c.args.self.now.sources.now (lines_in c.args.self.now.set.now) c.args.wanted in
    let some : 0 < c.loop-k.k = omega (arith, c.loop-k-test.true) in
    let here = last_before test c.loop-k.k c.args.self.now.moments.now c.index-self-k.result some (omega (arith, some, c.loop-k.invariant)) c.index-self-k.is in (
      omega (arith, c.loop-k.invariant.0),
      c.loop-k.invariant.1,
      sym (last_is_not _ (c.loop-k.k - 1) (last_place test (take (c.loop-k.k - 1) c.args.self.now.moments.now)) (ap test c.index-self-k.is ∙ sym c.passes.ensures ∙ c.if-passes.false)) ∙ sym here ∙ c.loop-k.invariant.2,
    )

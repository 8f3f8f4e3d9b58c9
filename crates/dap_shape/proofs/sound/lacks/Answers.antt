use Rattle.std.proofs.Common.{◌≤◌, length, sym, ◌∙◌, arith}
use Rattle.dap_shape.proofs.SoundLemmas.{not_lacked, one_lacked}
use Rattle.dap_shape.proofs.sound.lacks.Goals as goal

pub loop-place-preserved : goal.loop-place-preserved
loop-place-preserved c =
    let few : length c.args.rows.now ≤ length c.args.seen.now = omega (arith, c.requires, c.told-seen) in
    not_lacked c.args.rows.now c.args.seen.now c.loop-place.place _ few c.loop-place-test.true (sym c.is_lacking.ensures ∙ c.if-is_lacking.false) ∙ c.loop-place.invariant

pub returns-then-is_lacking : goal.returns-then-is_lacking
returns-then-is_lacking c =
    let few : length c.args.rows.now ≤ length c.args.seen.now = omega (arith, c.requires, c.told-seen) in
    one_lacked c.args.rows.now c.args.seen.now c.loop-place.place _ few c.loop-place-test.true (sym c.is_lacking.ensures ∙ c.if-is_lacking.true) ∙ c.loop-place.invariant

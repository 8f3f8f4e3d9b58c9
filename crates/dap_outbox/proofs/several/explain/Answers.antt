use Rattle.std.proofs.Common.{◌+◌, ◌≤◌, arith, sym, ◌∙◌, true≢false}
use Rattle.dap_outbox.proofs.Explanations.{fits-below}
use Rattle.dap_outbox.proofs.several.explain.Goals as goal

pub unreachable-requires : goal.unreachable-requires
unreachable-requires c =
    let left = c.requires.left in
    let last = c.requires.last in
    let next : c.args.outbox.now.numbers.used + 1 ≤ c.args.last = omega arith in
    let fits = fits-below (c.args.outbox.now.numbers.used + 1) c.args.last c.args.most c.args.request.now c.args.told.now next c.requires.small c.requires.fits in
    absurd (true≢false (sym fits ∙ (sym c.in_ok-explain_within.ensures.fits ∙ c.if-branch.false)))

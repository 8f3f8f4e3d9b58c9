use Rattle.std.proofs.Common.{◌≡◌, ◌+◌, ◌∷◌, ◌<◌, length, drop, get_or, add-one, ap, sym, ◌∙◌, arith}
use Rattle.std.proofs.Math.Seq.{drop-cons}
use Rattle.std.proofs.lemmas.Grind.{common_steps}
use Rattle.std.specs.BTreeSet as sorted
use Rattle.std.specs.Prelude.{◌||◌}
use Rattle.std.specs.Ordering.{nat_cmp}
use Rattle.dap_check.specs.Rules.{contains_number}
use Rattle.dap_check.proofs.references.add_all.Goals as goal

pub loop-number-preserved : goal.loop-number-preserved
loop-number-preserved c = λ n.
    let xs = c.args.numbers.now in
    let i = c.loop-number.number-index in
    let lt : i < length xs = c.loop-number-test.true in
    let cut : drop i xs ≡ get_or xs i 0 ∷ drop (i + 1) xs = rw (add-one, drop-cons xs i 0) in
    let was = c.loop-number.invariant n in
    let now = ap (λ ys. sorted.contains nat_cmp c.loop-number.known n || contains_number n ys) (sym cut) ∙ was in
    let at = c.in_ok-insert.ensures.updates.0 n in
    grind (arith, common_steps)

use Rattle.std.proofs.Common.{rules, ◌≡◌, sym, subst}
use Rattle.std.specs.List.Sorted.{IsPermutation, IsNonDecreasing}
use Rattle.std.proofs.lemmas.List.Sorted.{IsNonDecreasingBy-from_sort}
use Rattle.dap_replay.proofs.SetLines.{both-orders}
use Rattle.dap_replay.proofs.set_lines.in_both_orders.Goals as goal

pub returns-clause-rising : goal.returns-clause-rising
returns-clause-rising c =
    let sorted = c.sort_unstable.new.self.items in
    let copied : c.in_ok-rising.rising.items ≡ c.args.lines.now = search rules in
    let moved = subst (λ xs. IsPermutation xs sorted) copied c.sort_unstable.ensures.permutation in
    both-orders c.beside.result c.args.lines.now c.deref.result.now c.beside.ensures.lines c.beside.ensures.rising
    (subst (λ ys. IsPermutation c.args.lines.now ys) (sym c.deref.ensures.value) moved)
    (subst IsNonDecreasing (sym c.deref.ensures.value) (IsNonDecreasingBy-from_sort (λ n. n) sorted c.sort_unstable.ensures.sorted))

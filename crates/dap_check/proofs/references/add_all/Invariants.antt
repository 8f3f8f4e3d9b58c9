use Rattle.std.proofs.Common.{◌≡◌, ℕ, drop}
use Rattle.std.specs.Prelude.{◌||◌}
use Rattle.std.specs.BTreeSet as sorted
use Rattle.std.specs.Ordering.{nat_cmp}
use Rattle.dap_check.specs.Rules.{contains_number}
use Rattle.dap_check.proofs.references.add_all.Given as goal

abbrev pub invariant-loop-number : goal.invariant-loop-number
invariant-loop-number l = (n : ℕ) → (sorted.contains nat_cmp l.known n || contains_number n (drop l.number-index l.numbers)) ≡ (sorted.contains nat_cmp l.initial.known n || contains_number n l.numbers)

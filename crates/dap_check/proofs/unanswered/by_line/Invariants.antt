use Rattle.std.proofs.Common.{◌≡◌, ℕ}
use Rattle.std.specs.BTreeMap as tree
use Rattle.std.specs.Ordering.{nat_cmp}
use Rattle.dap_check.specs.PrivateOpen.{last_at}
use Rattle.dap_check.proofs.unanswered.by_line.Given as goal

abbrev pub invariant-loop-request : goal.invariant-loop-request
invariant-loop-request l = (n : ℕ) → tree.get nat_cmp l.lines n ≡ last_at n l.yielded

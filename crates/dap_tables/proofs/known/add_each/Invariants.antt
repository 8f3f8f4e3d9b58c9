use Rattle.std.proofs.Common.{◌≡◌, ◌≤◌, length, take}
use Rattle.dap_tables.specs.Known.{with_pairs}
use Rattle.dap_tables.specs.PrivateKnownStore.{pairs_of_targets}
use Rattle.dap_tables.proofs.known.add_each.Given as goal

-- what is left to add, behind what was added; what was held before stands in front
abbrev pub invariant-loop-pair : goal.invariant-loop-pair
invariant-loop-pair l = record {
  same : with_pairs l.rest (pairs_of_targets l.held) ≡ with_pairs l.given (pairs_of_targets l.fn.held);
  front : take (length l.fn.held) (pairs_of_targets l.held) ≡ pairs_of_targets l.fn.held;
  more : length l.fn.held ≤ length l.held;
  within : length l.held ≤ l.room;
}

abbrev pub decreases-loop-pair : goal.decreases-loop-pair
decreases-loop-pair l = length l.rest

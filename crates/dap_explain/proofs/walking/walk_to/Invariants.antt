use Rattle.std.proofs.Common.{◌≡◌, ◌⊎◌, ◌+◌, ◌≤◌, length}
use Rattle.dap_explain.specs.Explained.{noted_by}
use Rattle.dap_explain.specs.PrivateWalks.{IsWalk}
use Rattle.dap_explain.proofs.walking.walk_to.Given as goal

abbrev pub invariant-loop-checker : goal.invariant-loop-checker
invariant-loop-checker l = IsWalk l.bytes l.rest l.checker × ((noted_by l.checker ≡ 0) ⊎ (noted_by l.checker + 1 ≤ l.number))

abbrev pub decreases-loop-checker : goal.decreases-loop-checker
decreases-loop-checker l = length l.rest

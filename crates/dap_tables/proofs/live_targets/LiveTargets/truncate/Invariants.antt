use Rattle.std.proofs.Common.{◌≡◌, ◌≤◌, length, take}
use Rattle.dap_tables.proofs.live_targets.LiveTargets.truncate.Given as goal

-- what is left is the front, and long enough
abbrev pub invariant-loop-self : goal.invariant-loop-self
invariant-loop-self l = record {
  front : l.self ≡ take (length l.self) l.fn.self;
  above : l.len ≤ length l.self;
}

abbrev pub decreases-loop-self : goal.decreases-loop-self
decreases-loop-self l = length l.self

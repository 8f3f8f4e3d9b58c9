use Rattle.std.proofs.Common.{◌≡◌}
use Rattle.dap_check.proofs.unanswered.values.Given as goal

abbrev pub invariant-loop-request : goal.invariant-loop-request
invariant-loop-request l = l.requests.items ≡ l.yielded

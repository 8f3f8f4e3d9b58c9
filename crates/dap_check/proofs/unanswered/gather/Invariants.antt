use Rattle.std.proofs.Common.{◌≡◌, ◌++◌}
use Rattle.std.specs.Prelude.{flat_map}
use Rattle.dap_check.proofs.unanswered.gather.Given as goal

abbrev pub invariant-loop-under_number : goal.invariant-loop-under_number
invariant-loop-under_number l = l.all.items ≡ l.initial.all.items ++ flat_map (λ requests. requests.items) l.yielded

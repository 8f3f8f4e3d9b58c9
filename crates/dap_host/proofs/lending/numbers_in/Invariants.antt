use Rattle.std.proofs.Common.{◌≡◌, ◌++◌, length}
use Rattle.dap_host.specs.Hearing.{numbers_in}
use Rattle.dap_host.proofs.lending.numbers_in.Given as goal

-- those so far, and those of what is left, are all of them
abbrev pub invariant-loop-request : goal.invariant-loop-request
invariant-loop-request l = l.numbers.items ++ numbers_in l.lent ≡ numbers_in l.initial.lent

abbrev pub decreases-loop-request : goal.decreases-loop-request
decreases-loop-request l = length l.lent

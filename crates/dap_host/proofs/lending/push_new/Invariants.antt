use Rattle.std.proofs.Common.{◌≡◌, ◌++◌, length}
use Rattle.dap_line.specs.Written.{lent_lines}
use Rattle.dap_host.specs.Hearing.{numbers_in, new_numbers}
use Rattle.dap_host.proofs.lending.push_new.Given as goal

-- the lines so far, and those of what is left, are all of them
abbrev pub invariant-loop-request : goal.invariant-loop-request
invariant-loop-request l = l.out.items ++ lent_lines (new_numbers l.before (numbers_in l.lent)) ≡ l.initial.out.items ++ lent_lines (new_numbers l.before (numbers_in l.initial.lent))

abbrev pub decreases-loop-request : goal.decreases-loop-request
decreases-loop-request l = length l.lent

use Rattle.std.proofs.Common.{◌≡◌, ◌++◌, take, drop}
use Rattle.dap_reason.specs.Excerpts.{before_blank}
use Rattle.dap_reason.proofs.excerpt.until_blank.Given as goal

-- no block ends in the bytes so far
abbrev pub invariant-loop-i : goal.invariant-loop-i
invariant-loop-i l = before_blank l.bytes ≡ take l.i l.bytes ++ before_blank (drop l.i l.bytes)

use Rattle.std.proofs.Common.{◌≡◌, ◌++◌, take}
use Rattle.dap_line.specs.Written.{act_lines}
use Rattle.dap_line.proofs.acts.push_acts.Given as goal

abbrev pub invariant-loop-act : goal.invariant-loop-act
invariant-loop-act l = l.out.items ≡ l.fn.out.items ++ act_lines (take l.act-index l.acts)

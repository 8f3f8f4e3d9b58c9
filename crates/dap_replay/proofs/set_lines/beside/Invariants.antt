use Rattle.std.proofs.Common.{◌≡◌, take}
use Rattle.dap_replay.specs.PrivateSetLines.{lines_of, rising_of}
use Rattle.dap_replay.proofs.set_lines.beside.Given as goal

-- those so far, of both
abbrev pub invariant-loop-i : goal.invariant-loop-i
invariant-loop-i l = (lines_of l.set.items ≡ take l.i l.lines) × (rising_of l.set.items ≡ take l.i l.rising)

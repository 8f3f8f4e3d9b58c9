use Rattle.std.proofs.Common.{◌≡◌, ◌+◌, ◌≤◌, ◌∷◌, drop, if◌then◌else◌}
use Rattle.dap_recording.specs.Recording.{line_count}
use Rattle.dap_recording.proofs.numbers.line_count.Given as goal

-- the lines that ended so far, and those of what is left, with the one that began
abbrev pub invariant-loop-byte : goal.invariant-loop-byte
invariant-loop-byte l = record {
  counted : l.lines + line_count (if l.open then 0 ∷ drop l.byte-index l.byte-items else drop l.byte-index l.byte-items) ≡ line_count l.byte-items;
  few : l.lines ≤ l.byte-index;
}

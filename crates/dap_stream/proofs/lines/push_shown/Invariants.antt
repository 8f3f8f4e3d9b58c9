use Rattle.std.proofs.Common.{◌≡◌, ◌++◌, take}
use Rattle.dap_stream.specs.Lines.{shown_text}
use Rattle.dap_stream.proofs.lines.push_shown.Given as goal

abbrev pub invariant-loop-byte : goal.invariant-loop-byte
invariant-loop-byte l = l.line.items ≡ l.initial.line.items ++ shown_text (take l.byte-index l.text)

use Rattle.std.proofs.Common.{◌≡◌, ◌++◌, take}
use Rattle.dap_stream.specs.Lines.{unbroken}
use Rattle.dap_stream.proofs.bodies.push_others.Given as goal

abbrev pub invariant-loop-byte : goal.invariant-loop-byte
invariant-loop-byte l = l.line.items ≡ l.initial.line.items ++ unbroken (take l.byte-index l.body)

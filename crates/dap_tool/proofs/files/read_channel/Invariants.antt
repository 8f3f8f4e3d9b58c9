use Rattle.std.proofs.Common.{◌-◌, length}
use Rattle.dap_tool.proofs.WholeFiles.{ReadSoFar}
use Rattle.dap_tool.proofs.files.read_channel.Given as goal

abbrev pub invariant-loop-buffer : goal.invariant-loop-buffer
invariant-loop-buffer g l = ReadSoFar g.C.Channel.goes l.fn.channel l.channel l.bytes.items

abbrev pub decreases-loop-buffer : goal.decreases-loop-buffer
decreases-loop-buffer g l = 67108865 - length l.bytes.items

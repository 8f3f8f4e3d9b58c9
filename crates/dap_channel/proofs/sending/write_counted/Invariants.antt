use Rattle.std.proofs.Common.{◌-◌, ◌≤◌, length, take}
use Rattle.dap_channel.specs.Sent.{Writes}
use Rattle.dap_channel.proofs.sending.write_counted.Given as goal

abbrev pub invariant-loop-at : goal.invariant-loop-at
invariant-loop-at g l = record {
  within : l.at ≤ length l.bytes;
  out : Writes g.C.Channel.goes l.fn.channel l.channel (take l.at l.bytes);
}

abbrev pub decreases-loop-at : goal.decreases-loop-at
decreases-loop-at g l = length l.bytes - l.at

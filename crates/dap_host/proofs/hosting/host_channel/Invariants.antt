use Rattle.std.specs.Prelude.{[]}
use Rattle.dap_host.specs.Hearing.{IsGoing}
use Rattle.dap_host.specs.Hosting.{point_of}
use Rattle.dap_host.specs.PrivateHosting.{SoFar}
use Rattle.dap_host.proofs.hosting.host_channel.Given as goal

abbrev pub invariant-loop-line : goal.invariant-loop-line
invariant-loop-line g l = SoFar g.C.Channel.goes (point_of l.initial.channel l.initial.hosting.host []) l._line l.channel l.hosting × IsGoing l.hosting.host

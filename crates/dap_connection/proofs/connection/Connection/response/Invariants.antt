use Rattle.std.proofs.Common.{◌≡◌}
use Rattle.dap_connection.proofs.Hearing.{HasHeard}
use Rattle.dap_connection.proofs.connection.Connection.response.Given as goal

abbrev pub invariant-loop-message : goal.invariant-loop-message
invariant-loop-message g l = record {
  heard : HasHeard g.C.Channel.goes l.fn.seq l.fn.self.wire l.fn.self.passed l.self.wire l.self.passed l._message;
  fault : l.self.fault ≡ l.fn.self.fault;
}

use Rattle.std.proofs.Common.{◌≡◌, []}
use Rattle.dap_connection.specs.Connection.{Hears, step_count}
use Rattle.dap_connection.proofs.connection.Connection.hear.Given as goal

abbrev pub invariant-loop-step : goal.invariant-loop-step
invariant-loop-step g l = record {
  heard : Hears g.C.Channel.goes l.fn.self.wire [] l.self.wire;
  count : step_count heard ≡ l._step;
  passed : l.self.passed ≡ l.fn.self.passed;
  fault : l.self.fault ≡ l.fn.self.fault;
}

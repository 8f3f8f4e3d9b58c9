use Rattle.std.proofs.Common.{[]}
use Rattle.dap_plan.specs.Session.{to_handle}
use Rattle.dap_adapter.specs.PrivateServing.{way_of, point_of, Leads}
use Rattle.dap_adapter.specs.Run.{to_turn}
use Rattle.dap_adapter.proofs.serving.turns.Given as goal

abbrev pub invariant-turns : goal.invariant-turns
invariant-turns g l = Leads (way_of g.S.Outgoing.puts g.S.Outgoing.refuses g.D.Debuggee.shown g.D.Debuggee.follows) (point_of l.fn.channel l.fn.sink l.fn.adapter) to_turn [] (point_of l.channel l.sink l.adapter) to_turn

abbrev pub decreases-turns : goal.decreases-turns
decreases-turns g l = to_handle l.adapter.session.kept

use Rattle.std.proofs.Common.{◌≡◌}
use Rattle.dap_adapter.specs.PrivateServing.{way_of, point_of, next_after_polls, Quietly}
use Rattle.dap_adapter.specs.Run.{to_poll}
use Rattle.dap_adapter.proofs.serving.polls.Given as goal

abbrev pub invariant-loop-poll : goal.invariant-loop-poll
invariant-loop-poll g l = record {
  quietly : Quietly (way_of g.S.Outgoing.puts g.S.Outgoing.refuses g.D.Debuggee.shown g.D.Debuggee.follows) (point_of l.fn.channel l.fn.sink l.fn.adapter) (to_poll 0) (point_of l.channel l.sink l.adapter) (next_after_polls l._poll);
  intake : l.adapter.intake ≡ l.fn.adapter.intake;
}

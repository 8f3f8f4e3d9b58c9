use Rattle.std.proofs.Common.{◌≡◌, ◌-◌, ◌≤◌, length, take, false}
use Rattle.dap_adapter.specs.PrivateServing.{way_of, point_of, Leads}
use Rattle.dap_adapter.specs.Run.{to_take, has_ended}
use Rattle.dap_adapter.proofs.serving.serve_piece.Given as goal

abbrev pub invariant-loop-at : goal.invariant-loop-at
invariant-loop-at g l = record {
  within : l.at ≤ length l.piece;
  leads : has_ended l.fn.adapter.session ≡ false → Leads (way_of g.S.Outgoing.puts g.S.Outgoing.refuses g.D.Debuggee.shown g.D.Debuggee.follows) (point_of l.fn.channel l.fn.sink l.fn.adapter) to_take (take l.at l.piece) (point_of l.channel l.sink l.adapter) to_take;
  going : has_ended l.fn.adapter.session ≡ false → has_ended l.adapter.session ≡ false;
}

abbrev pub decreases-loop-at : goal.decreases-loop-at
decreases-loop-at g l = length l.piece - l.at

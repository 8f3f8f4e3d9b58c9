use Rattle.std.proofs.Common.{◌≡◌, ◌-◌, ◌≤◌, [], length, drop}
use Rattle.dap_frame.specs.Intake.{IsUnderWay}
use Rattle.dap_frame.specs.Settings.{Settings}
use Rattle.dap_drive.specs.PrivateHeld.{driven_by, both_of, HasDelivered, Spends}
use Rattle.dap_world.specs.World.{World}
use Rattle.dap_drive.proofs.ends.Drive.deliver_down.Given as goal

abbrev pub invariant-loop-at : goal.invariant-loop-at
invariant-loop-at g l = record {
  within : l.at ≤ length l.down;
  reading : IsUnderWay l.self.reader;
  delivered : (limits : Settings) (debuggee : g.row.D.Denot) (start : World g.row.D.Denot) → HasDelivered (driven_by g.D.Debuggee.shown g.D.Debuggee.follows limits debuggee) start (both_of l.fn.self) [] l.down
      → HasDelivered (driven_by g.D.Debuggee.shown g.D.Debuggee.follows limits debuggee) start (both_of l.self) l.up.items (drop l.at l.down);
  spends : Spends l.fn.self.client.session l.self.client.session 0 (length l.up.items);
  adapter : l.self.adapter ≡ l.fn.self.adapter;
}

abbrev pub decreases-loop-at : goal.decreases-loop-at
decreases-loop-at g l = length l.down - l.at

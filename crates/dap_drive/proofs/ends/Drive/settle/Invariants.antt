use Rattle.std.proofs.Common.{◌-◌, ◌≤◌, []}
use Rattle.dap_frame.specs.Intake.{IsUnderWay}
use Rattle.dap_frame.specs.Settings.{Settings}
use Rattle.dap_drive.specs.PrivateHeld.{driven_by, both_of, HasDelivered, left_to_do}
use Rattle.dap_world.specs.World.{World}
use Rattle.dap_drive.proofs.ends.Drive.settle.Given as goal

abbrev pub invariant-settle : goal.invariant-settle
invariant-settle g l = record {
  reading : IsUnderWay l.self.reader;
  delivered : (limits : Settings) (debuggee : g.row.D.Denot) (start : World g.row.D.Denot) → HasDelivered (driven_by g.D.Debuggee.shown g.D.Debuggee.follows limits debuggee) start (both_of l.fn.self) [] l.fn.first.items
      → HasDelivered (driven_by g.D.Debuggee.shown g.D.Debuggee.follows limits debuggee) start (both_of l.self) [] l.down.items;
  less : left_to_do l.self.client l.self.adapter ≤ left_to_do l.fn.self.client l.fn.self.adapter;
}

abbrev pub decreases-settle : goal.decreases-settle
decreases-settle g l = l.self.client.session.limits.seq - l.self.client.session.used

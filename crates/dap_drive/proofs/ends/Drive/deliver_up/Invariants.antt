use Rattle.std.proofs.Common.{◌≡◌, ◌-◌, ◌≤◌, [], length, drop}
use Rattle.dap_frame.specs.Intake.{IsUnderWay}
use Rattle.dap_frame.specs.Settings.{Settings}
use Rattle.dap_drive.specs.PrivateHeld.{driven_by, both_of, HasDelivered}
use Rattle.dap_world.specs.World.{World}
use Rattle.dap_drive.proofs.ends.Drive.deliver_up.Given as goal

abbrev pub invariant-loop-at : goal.invariant-loop-at
invariant-loop-at g l = record {
  within : l.at ≤ length l.up;
  reading : IsUnderWay l.self.reader;
  delivered : (limits : Settings) (debuggee : g.row.D.Denot) (start : World g.row.D.Denot) → HasDelivered (driven_by g.D.Debuggee.shown g.D.Debuggee.follows limits debuggee) start (both_of l.fn.self) l.up []
      → HasDelivered (driven_by g.D.Debuggee.shown g.D.Debuggee.follows limits debuggee) start (both_of l.self) (drop l.at l.up) l.down.items;
  client : l.self.client ≡ l.fn.self.client;
  limits : l.self.adapter.session.limits ≡ l.fn.self.adapter.session.limits;
}

abbrev pub decreases-loop-at : goal.decreases-loop-at
decreases-loop-at g l = length l.up - l.at

use Rattle.dap_frame.specs.Intake.{IsUnderWay}
use Rattle.dap_frame.specs.Settings.{Settings}
use Rattle.dap_adapter.specs.Run.{to_turn}
use Rattle.dap_drive.specs.PrivateHeld.{driven_by, both_of, IsQuiet, HasDone, left_to_do}
use Rattle.dap_drive.specs.Orders.{RunsTo}
use Rattle.dap_world.specs.World.{World}
use Rattle.dap_drive.proofs.ends.Drive.turns.Given as goal

abbrev pub invariant-turns : goal.invariant-turns
invariant-turns g l = record {
  reading : IsUnderWay l.self.reader;
  ran : (limits : Settings) (debuggee : g.row.D.Denot) (start : World g.row.D.Denot) → IsQuiet (driven_by g.D.Debuggee.shown g.D.Debuggee.follows limits debuggee) (both_of l.fn.self) start
      → HasDone (driven_by g.D.Debuggee.shown g.D.Debuggee.follows limits debuggee) (λ old new. RunsTo g.D.Debuggee.shown g.D.Debuggee.follows old to_turn new) start (both_of l.self);
}

abbrev pub decreases-turns : goal.decreases-turns
decreases-turns g l = left_to_do l.self.client l.self.adapter

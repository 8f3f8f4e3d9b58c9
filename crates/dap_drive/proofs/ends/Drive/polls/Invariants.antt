use Rattle.dap_frame.specs.Intake.{IsUnderWay}
use Rattle.dap_frame.specs.Settings.{Settings}
use Rattle.dap_adapter.specs.Run.{to_poll}
use Rattle.dap_drive.specs.PrivateHeld.{driven_by, both_of, HasDone, next_after_polls}
use Rattle.dap_drive.specs.Orders.{RunsTo}
use Rattle.dap_world.specs.World.{World}
use Rattle.dap_drive.proofs.ends.Drive.polls.Given as goal

abbrev pub invariant-loop-poll : goal.invariant-loop-poll
invariant-loop-poll g l = record {
  reading : IsUnderWay l.self.reader;
  ran : (limits : Settings) (debuggee : g.row.D.Denot) (start : World g.row.D.Denot) → HasDone (driven_by g.D.Debuggee.shown g.D.Debuggee.follows limits debuggee) (λ old new. RunsTo g.D.Debuggee.shown g.D.Debuggee.follows old (to_poll 0) new) start (both_of l.fn.self)
      → HasDone (driven_by g.D.Debuggee.shown g.D.Debuggee.follows limits debuggee) (λ old new. RunsTo g.D.Debuggee.shown g.D.Debuggee.follows old (next_after_polls l._poll) new) start (both_of l.self);
}

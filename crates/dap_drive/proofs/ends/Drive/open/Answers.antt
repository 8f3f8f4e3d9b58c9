use Rattle.dap_drive.specs.PrivateHeld.{driven_by, both}
use Rattle.dap_drive.proofs.Doing.{both_fresh}
use Rattle.dap_drive.proofs.ends.Drive.open.Goals as goal

pub returns-clause-fresh : goal.returns-clause-fresh
returns-clause-fresh g c =
    both_fresh c.frames_keep_their_laws.ensures (driven_by g.D.Debuggee.shown g.D.Debuggee.follows c.args.limits c.args.debuggee) c.each_schedule_agrees.ensures.agrees (both c.in_ok-client.client c.in_ok-adapter.adapter c.in_ok-reader.reader c.new.result.items) c.limits_are_in_range.ensures c.in_ok-client.ensures.session c.in_ok-client.ensures.stands c.in_ok-adapter.ensures.session c.in_ok-adapter.ensures.debuggee c.in_ok-adapter.ensures.stands
    c.in_ok-reader.ensures.bounds c.in_ok-reader.ensures.under_way c.in_ok-reader.ensures.fresh c.new.ensures.items

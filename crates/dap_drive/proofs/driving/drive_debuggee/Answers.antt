use Rattle.std.proofs.Common.{refl, sym, ap, ◌∙◌, subst, arith}
use Rattle.std.specs.Str.Lines.{lines}
use Rattle.dap_drive.specs.Driven.{StopsWith}
use Rattle.dap_drive.specs.declared.fault.DriveFault.{DriveFault}
use Rattle.dap_drive.specs.PrivateHeld.{driven_by, both_of}
use Rattle.dap_drive.proofs.Doing.{no_items}
use Rattle.dap_drive.proofs.Schedules.{only-numbers, legal-text}
use Rattle.dap_drive.proofs.Scripting.{part_way_begins, part_way_on, part_way_stops, part_way_done}
use Rattle.dap_drive.proofs.driving.drive_debuggee.Goals as goal

pub loop-rest-init : goal.loop-rest-init
loop-rest-init g c = record {
  reading = c.in-Ok.ensures.reading;
  within = omega arith;
  part = part_way_begins (driven_by g.D.Debuggee.shown g.D.Debuggee.follows c.args.limits c.args.debuggee) c.args.script.now (both_of c.in-Ok.drive) c.in-Ok.ensures.fresh;
}

pub loop-rest-preserved : goal.loop-rest-preserved
loop-rest-preserved g c = record {
  reading = c.in-Ok-do_line.ensures.reading;
  within = omega (arith, c.loop-rest.invariant.within, c.split_line.ensures.shorter);
  part = part_way_on (driven_by g.D.Debuggee.shown g.D.Debuggee.follows c.args.limits c.args.debuggee) c.args.script.now c.loop-rest.rest.now c.split_line.result.1.now c.split_line.result.0.now c.loop-rest.number (both_of c.loop-rest.drive) (both_of c.do_line.new.drive)
      c.split_line.ensures.lines c.loop-rest.invariant.part (c.in-Ok-do_line.ensures.ran c.args.limits c.args.debuggee c.loop-rest.invariant.part.before);
}

pub returns-in-Err-clause-stops : goal.returns-in-Err-clause-stops
returns-in-Err-clause-stops g c =
    let left = c.do_line.new.drive.adapter.debuggee in
    let stops = part_way_stops (driven_by g.D.Debuggee.shown g.D.Debuggee.follows c.args.limits c.args.debuggee) c.args.script.now c.loop-rest.rest.now c.split_line.result.1.now c.split_line.result.0.now c.loop-rest.number c.in-Err.fault left (both_of c.loop-rest.drive)
    c.split_line.ensures.lines c.in-Err.ensures.not_skipped c.loop-rest.invariant.part (c.in-Err.ensures.stops c.args.limits c.args.debuggee) in
    rw c.into_debuggee-debuggee.ensures stops

pub returns-clause-drives : goal.returns-clause-drives
returns-clause-drives g c =
    part_way_done (driven_by g.D.Debuggee.shown g.D.Debuggee.follows c.args.limits c.args.debuggee) c.each_schedule_agrees.ensures.agrees c.each_schedule_agrees.ensures.rules c.canonical_text_is_one_line.ensures c.args.script.now c.loop-rest.rest.now c.loop-rest.number (both_of c.loop-rest.drive) c.into_parts-transcript.result.0.items c.into_parts-transcript.result.1
    (no_items c.loop-rest.rest.now _ refl (sym c.is_empty.ensures ∙ c.loop-rest-test.false)) (ap (λ (v : _). v.items) c.into_parts-transcript.ensures.transcript) c.into_parts-transcript.ensures.debuggee c.loop-rest.invariant.part

pub returns-in-Err-clause-numbers : goal.returns-in-Err-clause-numbers
returns-in-Err-clause-numbers g c = λ stops client.
    let left = c.do_line.new.drive.adapter.debuggee in
    let stopped = part_way_stops (driven_by g.D.Debuggee.shown g.D.Debuggee.follows c.args.limits c.args.debuggee) c.args.script.now c.loop-rest.rest.now c.split_line.result.1.now c.split_line.result.0.now c.loop-rest.number c.in-Err.fault left (both_of c.loop-rest.drive)
    c.split_line.ensures.lines c.in-Err.ensures.not_skipped c.loop-rest.invariant.part (c.in-Err.ensures.stops c.args.limits c.args.debuggee) in
    only-numbers g.D.Debuggee.shown g.D.Debuggee.follows c.args.limits c.args.debuggee c.loop-rest.invariant.part.run.quiet.at.in_range c.references_agree_while_stops_last.ensures.agree stops (lines c.args.script.now) left
    (subst (λ (f : DriveFault). StopsWith g.D.Debuggee.shown g.D.Debuggee.follows c.args.limits c.args.debuggee (lines c.args.script.now) f left) client stopped)

pub returns-clause-legal : goal.returns-clause-legal
returns-clause-legal g c = λ stops.
    legal-text g.D.Debuggee.shown g.D.Debuggee.follows c.args.limits c.args.debuggee c.loop-rest.invariant.part.run.quiet.at.in_range c.references_agree_while_stops_last.ensures.legal stops (lines c.args.script.now) c.into_parts-transcript.result.0.items c.into_parts-transcript.result.1 (returns-clause-drives g c)

use Rattle.std.proofs.Common.{ℕ, List, subst}
use Rattle.std.proofs.lemmas.Result.{err_from_is_err_and}
use Rattle.dap_check.specs.declared.line.Side.TheVariants.{Adapter}
use Rattle.dap_drive.specs.PrivateLines.{WritesLines}
use Rattle.dap_drive.specs.PrivateHeld.{driven_by, both_of}
use Rattle.dap_drive.proofs.Delivering.{memory_alone}
use Rattle.dap_drive.proofs.Doing.{idle_done, turn_done, turn_spoken, turn_less, turn_refused, turn_stops, step_framed}
use Rattle.dap_drive.proofs.ends.Drive.turn.Goals as goal

pub returns-in-Ok-Idle-clause-turned : goal.returns-in-Ok-Idle-clause-turned
returns-in-Ok-Idle-clause-turned g c = λ limits debuggee start q.
    let gives = rw c.in-Ok-Idle.field-0-is at c.in-Ok-Idle.ensures.gives in
    idle_done c.frames_keep_their_laws.ensures (driven_by g.D.Debuggee.shown g.D.Debuggee.follows limits debuggee) c.each_schedule_agrees.ensures.agrees (both_of c.args.self.now) c.turn.new.self start q gives.0 gives.1

pub returns-clause-turned : goal.returns-clause-turned
returns-clause-turned g c = λ limits debuggee start q.
    let gives = rw c.in-Ok-Done.field-0-is at c.in-Ok-Done.ensures.gives in
    let w = subst (λ (z : List ℕ). WritesLines limits c.write_lines.new.reader Adapter z c.args.self.now.transcript.items c.write_lines.new.transcript.items) c.deref.ensures.value (c.in-Ok.ensures.lines limits q.at.reader_at) in
    let h = turn_spoken c.frames_keep_their_laws.ensures (driven_by g.D.Debuggee.shown g.D.Debuggee.follows limits debuggee) c.each_schedule_agrees.ensures.agrees (both_of c.args.self.now) c.turn.new.self c.write_lines.new.reader c.write_lines.new.transcript.items c.in-Ok-Done.bytes.items start q gives c.in-Ok-Done.ensures.limits w in
    turn_done c.frames_keep_their_laws.ensures (driven_by g.D.Debuggee.shown g.D.Debuggee.follows limits debuggee) c.each_schedule_agrees.ensures.agrees (both_of c.args.self.now) (both_of c.settle.new.self) c.turn.new.self c.in-Ok-Done.bytes.items start q gives
    (c.in_ok-settle.ensures.settled limits debuggee _ h)

pub returns-clause-less : goal.returns-clause-less
returns-clause-less g c = λ done.
    let fewer = rw c.in-Ok-Done.field-0-is at c.in-Ok-Done.ensures.fewer in
    turn_less c.args.self.now.client c.settle.new.self.client c.args.self.now.adapter c.turn.new.self c.settle.new.self.adapter c.in-Ok-Done.ensures.limits fewer c.in_ok-settle.ensures.less

pub returns-in-Err-clause-stops : goal.returns-in-Err-clause-stops
returns-in-Err-clause-stops g c = λ limits debuggee start q.
    rw c.adapter_fault.ensures (turn_refused c.frames_keep_their_laws.ensures (driven_by g.D.Debuggee.shown g.D.Debuggee.follows limits debuggee) c.each_schedule_agrees.ensures.agrees (both_of c.args.self.now) c.turn.new.self start q c.in-Err.fault (c.in-Err.ensures.refused q.at.adapter_at.stands.no_fault))

pub returns-in-Err-write_lines-clause-stops : goal.returns-in-Err-write_lines-clause-stops
returns-in-Err-write_lines-clause-stops g c = λ limits debuggee start q.
    let gives = rw c.in-Ok-Done.field-0-is at c.in-Ok-Done.ensures.gives in
    let framed = step_framed c.frames_keep_their_laws.ensures (driven_by g.D.Debuggee.shown g.D.Debuggee.follows limits debuggee) c.each_schedule_agrees.ensures.agrees (both_of c.args.self.now) c.turn.new.self c.in-Ok-Done.bytes.items c.deref.result.now start q gives.plan gives.step c.deref.ensures.value in
    rw (memory_alone c.in-Err-write_lines.fault c.unwritten.result c.args.self.now.reader c.deref.result.now c.in-Err-write_lines.ensures.unwritten c.unwritten.ensures framed) tt

pub returns-in_err-settle-clause-stops : goal.returns-in_err-settle-clause-stops
returns-in_err-settle-clause-stops g c =
    let p = err_from_is_err_and c.from_residual.result c.from_residual.ensures.1 in
    rw (p.1, p.2) (λ limits debuggee start q.
    let gives = rw c.in-Ok-Done.field-0-is at c.in-Ok-Done.ensures.gives in
    let w = subst (λ (z : List ℕ). WritesLines limits c.write_lines.new.reader Adapter z c.args.self.now.transcript.items c.write_lines.new.transcript.items) c.deref.ensures.value (c.in-Ok.ensures.lines limits q.at.reader_at) in
    let h = turn_spoken c.frames_keep_their_laws.ensures (driven_by g.D.Debuggee.shown g.D.Debuggee.follows limits debuggee) c.each_schedule_agrees.ensures.agrees (both_of c.args.self.now) c.turn.new.self c.write_lines.new.reader c.write_lines.new.transcript.items c.in-Ok-Done.bytes.items start q gives c.in-Ok-Done.ensures.limits w in
    turn_stops c.frames_keep_their_laws.ensures (driven_by g.D.Debuggee.shown g.D.Debuggee.follows limits debuggee) c.each_schedule_agrees.ensures.agrees (both_of c.args.self.now) c.turn.new.self c.in-Ok-Done.bytes.items start q gives c.in_err-settle.field-0.0 c.settle.new.self.adapter.debuggee (c.in_err-settle.ensures.stops limits debuggee _ h))

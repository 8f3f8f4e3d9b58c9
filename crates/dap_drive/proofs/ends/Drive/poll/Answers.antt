use Rattle.std.proofs.Common.{ℕ, List, length, ◌==◌, subst, ap, ◌∙◌}
use Rattle.std.specs.Prelude.{◌||◌}
use Rattle.std.proofs.lemmas.Result.{err_from_is_err_and}
use Rattle.dap_check.specs.declared.line.Side.TheVariants.{Adapter}
use Rattle.dap_decision.specs.Table.{is_phase}
use Rattle.dap_decision.specs.declared.phase.Phase.{Phase}
use Rattle.dap_decision.specs.declared.phase.Phase.TheVariants.{Stopped}
use Rattle.dap_plan.specs.Polling.{polls}
use Rattle.dap_drive.specs.PrivateLines.{WritesLines}
use Rattle.dap_drive.specs.PrivateHeld.{driven_by, both_of}
use Rattle.dap_drive.proofs.Delivering.{memory_alone}
use Rattle.dap_drive.proofs.Doing.{poll_done, poll_spoken, poll_refused, poll_stops, step_framed}
use Rattle.dap_drive.proofs.ends.Drive.poll.Goals as goal

pub returns-clause-polled : goal.returns-clause-polled
returns-clause-polled g c = λ limits debuggee start q.
    let saw = c.in-Ok.ensures.saw in
    let w = subst (λ (z : List ℕ). WritesLines limits c.write_lines.new.reader Adapter z c.args.self.now.transcript.items c.write_lines.new.transcript.items) c.deref-2.ensures.value (c.in-Ok-write_lines.ensures.lines limits q.at.reader_at) in
    let h = poll_spoken c.frames_keep_their_laws.ensures (driven_by g.D.Debuggee.shown g.D.Debuggee.follows limits debuggee) c.each_schedule_agrees.ensures.agrees (both_of c.args.self.now) c.poll.new.self c.write_lines.new.reader c.write_lines.new.transcript.items c.in-Ok.bytes.items start q saw c.in-Ok.ensures.limits w in
    let last = c.is_last-last.ensures ∙ (ap (λ (z : List ℕ). (length z == 0) || is_phase Stopped c.phase.result) c.deref.ensures.value ∙ ap (λ (z : Phase). (length c.in-Ok.bytes.items == 0) || is_phase Stopped z) c.phase.ensures) in
    poll_done c.frames_keep_their_laws.ensures (driven_by g.D.Debuggee.shown g.D.Debuggee.follows limits debuggee) c.each_schedule_agrees.ensures.agrees (both_of c.args.self.now) (both_of c.settle.new.self) c.poll.new.self c.in-Ok.bytes.items start q saw c.is_last-last.result last
    (c.in_ok-settle.ensures.settled limits debuggee _ h)

pub returns-in-Err-clause-stops : goal.returns-in-Err-clause-stops
returns-in-Err-clause-stops g c = λ limits debuggee start q.
    rw c.adapter_fault.ensures (poll_refused c.frames_keep_their_laws.ensures (driven_by g.D.Debuggee.shown g.D.Debuggee.follows limits debuggee) c.each_schedule_agrees.ensures.agrees (both_of c.args.self.now) c.poll.new.self start q c.in-Err.fault (c.in-Err.ensures.refused q.at.adapter_at.stands.no_fault))

pub returns-in-Err-write_lines-clause-stops : goal.returns-in-Err-write_lines-clause-stops
returns-in-Err-write_lines-clause-stops g c = λ limits debuggee start q.
    let framed = step_framed c.frames_keep_their_laws.ensures (driven_by g.D.Debuggee.shown g.D.Debuggee.follows limits debuggee) c.each_schedule_agrees.ensures.agrees (both_of c.args.self.now) c.poll.new.self c.in-Ok.bytes.items c.deref-2.result.now start q (polls c.args.self.now.adapter.session) c.in-Ok.ensures.saw.step c.deref-2.ensures.value in
    rw (memory_alone c.in-Err-write_lines.fault c.unwritten.result c.args.self.now.reader c.deref-2.result.now c.in-Err-write_lines.ensures.unwritten c.unwritten.ensures framed) tt

pub returns-in_err-settle-clause-stops : goal.returns-in_err-settle-clause-stops
returns-in_err-settle-clause-stops g c =
    let p = err_from_is_err_and c.from_residual.result c.from_residual.ensures.1 in
    rw (p.1, p.2) (λ limits debuggee start q.
    let w = subst (λ (z : List ℕ). WritesLines limits c.write_lines.new.reader Adapter z c.args.self.now.transcript.items c.write_lines.new.transcript.items) c.deref-2.ensures.value (c.in-Ok-write_lines.ensures.lines limits q.at.reader_at) in
    let h = poll_spoken c.frames_keep_their_laws.ensures (driven_by g.D.Debuggee.shown g.D.Debuggee.follows limits debuggee) c.each_schedule_agrees.ensures.agrees (both_of c.args.self.now) c.poll.new.self c.write_lines.new.reader c.write_lines.new.transcript.items c.in-Ok.bytes.items start q c.in-Ok.ensures.saw c.in-Ok.ensures.limits w in
    poll_stops c.frames_keep_their_laws.ensures (driven_by g.D.Debuggee.shown g.D.Debuggee.follows limits debuggee) c.each_schedule_agrees.ensures.agrees (both_of c.args.self.now) c.poll.new.self c.in-Ok.bytes.items start q c.in-Ok.ensures.saw c.in_err-settle.field-0.0 c.settle.new.self.adapter.debuggee (c.in_err-settle.ensures.stops limits debuggee _ h))

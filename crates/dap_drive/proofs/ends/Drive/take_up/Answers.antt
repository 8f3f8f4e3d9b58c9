use Rattle.std.proofs.Common.{List, ℕ, ap, sym, ◌∙◌, ◌++◌}
use Rattle.dap_drive.specs.PrivateHeld.{driven_by, both_of}
use Rattle.dap_drive.proofs.Delivering.{served, served_framed, adapter_stops, memory_alone}
use Rattle.dap_drive.proofs.ends.Drive.take_up.Goals as goal

pub returns-clause-delivered : goal.returns-clause-delivered
returns-clause-delivered g c = λ some limits debuggee start h.
    served c.frames_keep_their_laws.ensures (driven_by g.D.Debuggee.shown g.D.Debuggee.follows limits debuggee) c.each_schedule_agrees.ensures.agrees start (both_of c.args.self.now) c.take.new.self c.args.rest.now c.args.down.now.items h some c.in-Ok.taken c.in-Ok.taken.delivered c.in-Ok.ensures.takes c.in-Ok.ensures.limits
    c.write_lines.new.reader c.write_lines.new.transcript.items c.deref.result.now c.extend_from_slice.new.self.items c.of_adapter-used.result.0 c.of_adapter-used.ensures.used (c.deref.ensures.value ∙ ap (λ (v : _). v.items) c.of_adapter-used.ensures.bytes)
    (c.in_ok-extend_from_slice.ensures.items ∙ ap (λ (z : List ℕ). c.args.down.now.items ++ z) (c.deref-2.ensures.value ∙ sym c.deref.ensures.value)) (c.in-Ok-write_lines.ensures.lines limits)

pub returns-in-Err-clause-stops : goal.returns-in-Err-clause-stops
returns-in-Err-clause-stops g c = λ limits debuggee start h some.
    rw c.adapter_fault.ensures (adapter_stops c.frames_keep_their_laws.ensures (driven_by g.D.Debuggee.shown g.D.Debuggee.follows limits debuggee) c.each_schedule_agrees.ensures.agrees start (both_of c.args.self.now) c.args.rest.now c.args.down.now.items h some c.in-Err.fault c.take.new.self.debuggee c.in-Err.ensures.debuggee (c.in-Err.ensures.refused h.at.adapter_at.stands.no_fault))

pub returns-in-Err-write_lines-clause-stops : goal.returns-in-Err-write_lines-clause-stops
returns-in-Err-write_lines-clause-stops g c = λ limits debuggee start h some.
    let framed = served_framed c.frames_keep_their_laws.ensures (driven_by g.D.Debuggee.shown g.D.Debuggee.follows limits debuggee) c.each_schedule_agrees.ensures.agrees start (both_of c.args.self.now) c.take.new.self c.args.rest.now c.args.down.now.items h c.in-Ok.taken c.in-Ok.taken.delivered c.in-Ok.ensures.takes c.deref.result.now (c.deref.ensures.value ∙ ap (λ (v : _). v.items) c.of_adapter-used.ensures.bytes) in
    rw (memory_alone c.in-Err-write_lines.fault c.unwritten.result c.args.self.now.reader c.deref.result.now c.in-Err-write_lines.ensures.unwritten c.unwritten.ensures framed) tt

use Rattle.std.proofs.Common.{List, ℕ, ap, sym, ◌∙◌, ◌++◌}
use Rattle.dap_drive.specs.PrivateHeld.{driven_by, both_of}
use Rattle.dap_drive.proofs.Delivering.{heard, heard_framed, client_stops, memory_alone}
use Rattle.dap_drive.proofs.Spending.{call_spends}
use Rattle.dap_drive.proofs.ends.Drive.take_down.Goals as goal

pub returns-clause-delivered : goal.returns-clause-delivered
returns-clause-delivered g c = λ some limits debuggee start h.
    heard c.frames_keep_their_laws.ensures (driven_by g.D.Debuggee.shown g.D.Debuggee.follows limits debuggee) c.each_schedule_agrees.ensures.agrees start (both_of c.args.self.now) c.take.new.self c.args.up.now.items c.args.rest.now h some c.in-Ok.got c.in-Ok.got.delivered c.in-Ok.ensures.takes c.in-Ok.ensures.limits
    c.write_lines.new.reader c.write_lines.new.transcript.items c.deref.result.now c.extend_from_slice.new.self.items c.of_client-used.result.0 c.of_client-used.ensures.used (c.deref.ensures.value ∙ ap (λ (v : _). v.items) c.of_client-used.ensures.bytes)
    (c.in_ok-extend_from_slice.ensures.items ∙ ap (λ (z : List ℕ). c.args.up.now.items ++ z) (c.deref-2.ensures.value ∙ sym c.deref.ensures.value)) (c.in-Ok-write_lines.ensures.lines limits)

pub returns-clause-spends : goal.returns-clause-spends
returns-clause-spends g c = call_spends c.args.self.now.client c.take.new.self c.args.rest.now c.args.up.now.items c.extend_from_slice.new.self.items c.in-Ok.got c.in-Ok.got.delivered c.in-Ok.ensures.takes (c.in_ok-extend_from_slice.ensures.items ∙ ap (λ (z : List ℕ). c.args.up.now.items ++ z) (c.deref-2.ensures.value ∙ ap (λ (v : _). v.items) c.of_client-used.ensures.bytes))

pub returns-in-Err-clause-stops : goal.returns-in-Err-clause-stops
returns-in-Err-clause-stops g c = λ limits debuggee start h some.
    rw c.client_fault.ensures (client_stops c.frames_keep_their_laws.ensures (driven_by g.D.Debuggee.shown g.D.Debuggee.follows limits debuggee) c.each_schedule_agrees.ensures.agrees start (both_of c.args.self.now) c.args.up.now.items c.args.rest.now h some c.in-Err.fault (c.in-Err.ensures.refused h.at.client_at.stands.no_fault))

pub returns-in-Err-write_lines-clause-stops : goal.returns-in-Err-write_lines-clause-stops
returns-in-Err-write_lines-clause-stops g c = λ limits debuggee start h some.
    let framed = heard_framed c.frames_keep_their_laws.ensures (driven_by g.D.Debuggee.shown g.D.Debuggee.follows limits debuggee) c.each_schedule_agrees.ensures.agrees start (both_of c.args.self.now) c.take.new.self c.args.up.now.items c.args.rest.now h c.in-Ok.got c.in-Ok.got.delivered c.in-Ok.ensures.takes c.deref.result.now (c.deref.ensures.value ∙ ap (λ (v : _). v.items) c.of_client-used.ensures.bytes) in
    rw (memory_alone c.in-Err-write_lines.fault c.unwritten.result c.args.self.now.reader c.deref.result.now c.in-Err-write_lines.ensures.unwritten c.unwritten.ensures framed) tt

use Rattle.std.proofs.Common.{ℕ, List, [], ◌∷◌, sym, subst, ◌∙◌, inr}
use Rattle.std.proofs.lemmas.Result.{err_from_is_err_and}
use Rattle.dap_check.specs.declared.line.Side.TheVariants.{Client}
use Rattle.dap_client.specs.Sending.{after_send, next_message}
use Rattle.dap_world.specs.World.{client_said}
use Rattle.dap_drive.specs.PrivateHeld.{driven_by, both, both_of, HasDelivered}
use Rattle.dap_drive.specs.PrivateLines.{WritesLines}
use Rattle.dap_drive.proofs.Delivering.{memory_alone}
use Rattle.dap_drive.proofs.Doing.{call_sent, send_done, send_stops, sent_framed}
use Rattle.dap_drive.proofs.ends.Drive.send.Goals as goal

pub returns-clause-sent : goal.returns-clause-sent
returns-clause-sent g c = λ limits debuggee start q.
    let w = subst (λ (z : List ℕ). WritesLines limits c.write_lines.new.reader Client z c.args.self.now.transcript.items c.write_lines.new.transcript.items) c.deref.ensures.value (c.in-Ok-write_lines.ensures.lines limits q.at.reader_at) in
    let sent = client_said (after_send c.args.call.now start.client) (next_message start.client c.args.call.now ∷ []) start in
    let h = call_sent c.frames_keep_their_laws.ensures (driven_by g.D.Debuggee.shown g.D.Debuggee.follows limits debuggee) c.each_schedule_agrees.ensures.agrees (both_of c.args.self.now) c.send.new.self c.write_lines.new.reader c.write_lines.new.transcript.items c.in-Ok.sent.bytes.items start c.args.call.now q c.requires.plain c.in-Ok.ensures.sent c.in-Ok.ensures.reads_back c.in-Ok.ensures.bytes c.in-Ok.ensures.session c.in-Ok.ensures.goes_on w in
    let up = c.in_ok-down.ensures.delivered limits debuggee sent (subst (λ (z : List ℕ). HasDelivered (driven_by g.D.Debuggee.shown g.D.Debuggee.follows limits debuggee) sent (both c.send.new.self c.args.self.now.adapter c.write_lines.new.reader c.write_lines.new.transcript.items) z []) (sym c.deref-2.ensures.value) h) in
    send_done c.frames_keep_their_laws.ensures (driven_by g.D.Debuggee.shown g.D.Debuggee.follows limits debuggee) c.each_schedule_agrees.ensures.agrees (both_of c.args.self.now) (both_of c.settle.new.self)
    start c.args.call.now q c.requires.plain c.in-Ok.ensures.sent c.in-Ok.ensures.reads_back (c.in_ok-settle.ensures.settled limits debuggee sent up)

pub returns-in-Err-write_lines-clause-stops : goal.returns-in-Err-write_lines-clause-stops
returns-in-Err-write_lines-clause-stops g c = λ limits debuggee start q.
    let framed = sent_framed c.frames_keep_their_laws.ensures (driven_by g.D.Debuggee.shown g.D.Debuggee.follows limits debuggee) c.each_schedule_agrees.ensures.agrees (both_of c.args.self.now) c.deref.result.now start c.args.call.now q c.in-Ok.ensures.reads_back (c.deref.ensures.value ∙ c.in-Ok.ensures.bytes) in
    rw (memory_alone c.in-Err-write_lines.fault c.unwritten.result c.args.self.now.reader c.deref.result.now c.in-Err-write_lines.ensures.unwritten c.unwritten.ensures framed) (inr tt)

pub returns-in_err-down-clause-stops : goal.returns-in_err-down-clause-stops
returns-in_err-down-clause-stops g c =
    let p = err_from_is_err_and c.from_residual.result c.from_residual.ensures.1 in
    rw (p.1, p.2) (λ limits debuggee start q.
    let w = subst (λ (z : List ℕ). WritesLines limits c.write_lines.new.reader Client z c.args.self.now.transcript.items c.write_lines.new.transcript.items) c.deref.ensures.value (c.in-Ok-write_lines.ensures.lines limits q.at.reader_at) in
    let sent = client_said (after_send c.args.call.now start.client) (next_message start.client c.args.call.now ∷ []) start in
    let h = call_sent c.frames_keep_their_laws.ensures (driven_by g.D.Debuggee.shown g.D.Debuggee.follows limits debuggee) c.each_schedule_agrees.ensures.agrees (both_of c.args.self.now) c.send.new.self c.write_lines.new.reader c.write_lines.new.transcript.items c.in-Ok.sent.bytes.items start c.args.call.now q c.requires.plain c.in-Ok.ensures.sent c.in-Ok.ensures.reads_back c.in-Ok.ensures.bytes c.in-Ok.ensures.session c.in-Ok.ensures.goes_on w in
    send_stops c.frames_keep_their_laws.ensures (driven_by g.D.Debuggee.shown g.D.Debuggee.follows limits debuggee) c.each_schedule_agrees.ensures.agrees (both_of c.args.self.now) start c.args.call.now c.in_err-down.field-0.0 c.deliver_up.new.self.adapter.debuggee c.args.line q c.requires.plain c.in-Ok.ensures.sent c.in-Ok.ensures.reads_back (c.in_err-down.ensures.stops limits debuggee sent (subst (λ (z : List ℕ). HasDelivered (driven_by g.D.Debuggee.shown g.D.Debuggee.follows limits debuggee) sent (both c.send.new.self c.args.self.now.adapter c.write_lines.new.reader c.write_lines.new.transcript.items) z []) (sym c.deref-2.ensures.value) h)))

pub returns-in_err-settle-clause-stops : goal.returns-in_err-settle-clause-stops
returns-in_err-settle-clause-stops g c =
    let p = err_from_is_err_and c.from_residual-in_err-settle.result c.from_residual-in_err-settle.ensures.1 in
    rw (p.1, p.2) (λ limits debuggee start q.
    let w = subst (λ (z : List ℕ). WritesLines limits c.write_lines.new.reader Client z c.args.self.now.transcript.items c.write_lines.new.transcript.items) c.deref.ensures.value (c.in-Ok-write_lines.ensures.lines limits q.at.reader_at) in
    let sent = client_said (after_send c.args.call.now start.client) (next_message start.client c.args.call.now ∷ []) start in
    let h = call_sent c.frames_keep_their_laws.ensures (driven_by g.D.Debuggee.shown g.D.Debuggee.follows limits debuggee) c.each_schedule_agrees.ensures.agrees (both_of c.args.self.now) c.send.new.self c.write_lines.new.reader c.write_lines.new.transcript.items c.in-Ok.sent.bytes.items start c.args.call.now q c.requires.plain c.in-Ok.ensures.sent c.in-Ok.ensures.reads_back c.in-Ok.ensures.bytes c.in-Ok.ensures.session c.in-Ok.ensures.goes_on w in
    send_stops c.frames_keep_their_laws.ensures (driven_by g.D.Debuggee.shown g.D.Debuggee.follows limits debuggee) c.each_schedule_agrees.ensures.agrees (both_of c.args.self.now) start c.args.call.now c.in_err-settle.field-0.0 c.settle.new.self.adapter.debuggee c.args.line q c.requires.plain c.in-Ok.ensures.sent c.in-Ok.ensures.reads_back (c.in_err-settle.ensures.stops limits debuggee sent (c.in_ok-down.ensures.delivered limits debuggee sent (subst (λ (z : List ℕ). HasDelivered (driven_by g.D.Debuggee.shown g.D.Debuggee.follows limits debuggee) sent (both c.send.new.self c.args.self.now.adapter c.write_lines.new.reader c.write_lines.new.transcript.items) z []) (sym c.deref-2.ensures.value) h))))

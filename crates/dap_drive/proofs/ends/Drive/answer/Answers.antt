use Rattle.std.proofs.Common.{ℕ, List, [], ◌∷◌, refl, sym, subst, ◌∙◌, inl, inr}
use Rattle.std.proofs.lemmas.Result.{err_from_is_err_and}
use Rattle.dap_check.specs.declared.line.Side.TheVariants.{Client}
use Rattle.dap_client.specs.TerminalResponse.{after_terminal_response, next_terminal_response}
use Rattle.dap_world.specs.World.{client_said}
use Rattle.dap_drive.specs.PrivateHeld.{driven_by, both, both_of, HasDelivered}
use Rattle.dap_drive.specs.PrivateLines.{WritesLines}
use Rattle.dap_drive.proofs.Delivering.{memory_alone}
use Rattle.dap_drive.proofs.Doing.{MayAnswer, answer_sent, answer_done, answer_stops, answer_framed, answer_refused, none_to_answer}
use Rattle.dap_drive.proofs.ends.Drive.answer.Goals as goal

pub returns-clause-answered : goal.returns-clause-answered
returns-clause-answered g c = λ limits debuggee start q.
    let drive = driven_by g.D.Debuggee.shown g.D.Debuggee.follows limits debuggee in
    let may : MayAnswer c.args.self.now.client c.in-Some.request_seq c.args.terminal = record { plain = c.requires.plain; oldest = sym c.in-Some.ensures.oldest; free = c.in-Ok.ensures.answered; reads_back = c.in-Ok.ensures.reads_back } in
    let w = subst (λ (z : List ℕ). WritesLines limits c.write_lines.new.reader Client z c.args.self.now.transcript.items c.write_lines.new.transcript.items) c.deref.ensures.value (c.in-Ok-write_lines.ensures.lines limits q.at.reader_at) in
    let said = client_said (after_terminal_response c.in-Some.request_seq start.client) (next_terminal_response start.client c.in-Some.request_seq c.args.terminal ∷ []) start in
    let h = answer_sent c.frames_keep_their_laws.ensures drive c.each_schedule_agrees.ensures.agrees (both_of c.args.self.now) c.answer.new.self c.write_lines.new.reader c.write_lines.new.transcript.items c.in-Ok.response.items start c.in-Some.request_seq c.args.terminal q may c.in-Ok.ensures.bytes c.in-Ok.ensures.session c.in-Ok.ensures.goes_on w in
    let down = c.in_ok-down.ensures.delivered limits debuggee said (subst (λ (z : List ℕ). HasDelivered drive said (both c.answer.new.self c.args.self.now.adapter c.write_lines.new.reader c.write_lines.new.transcript.items) z []) (sym c.deref-2.ensures.value) h) in
    answer_done c.frames_keep_their_laws.ensures drive c.each_schedule_agrees.ensures.agrees (both_of c.args.self.now) (both_of c.settle.new.self) start c.in-Some.request_seq c.args.terminal q may (c.in_ok-settle.ensures.settled limits debuggee said down)

pub returns-in_default-clause-stops : goal.returns-in_default-clause-stops
returns-in_default-clause-stops g c = λ limits debuggee start q.
    inl ((refl, c.args.terminal, refl, none_to_answer c.frames_keep_their_laws.ensures (driven_by g.D.Debuggee.shown g.D.Debuggee.follows limits debuggee) c.each_schedule_agrees.ensures.agrees (both_of c.args.self.now) start q (sym c.in_default.ensures.oldest)), q.at.adapter_at.debuggee_is)

pub returns-in-Err-clause-stops : goal.returns-in-Err-clause-stops
returns-in-Err-clause-stops g c = λ limits debuggee start q.
    rw c.answer_fault.ensures (answer_refused c.frames_keep_their_laws.ensures (driven_by g.D.Debuggee.shown g.D.Debuggee.follows limits debuggee) c.each_schedule_agrees.ensures.agrees (both_of c.args.self.now) start c.in-Some.request_seq c.args.terminal c.in-Err.fault c.args.line q (sym c.in-Some.ensures.oldest) c.in-Err.ensures.refused)

pub returns-in-Err-write_lines-clause-stops : goal.returns-in-Err-write_lines-clause-stops
returns-in-Err-write_lines-clause-stops g c = λ limits debuggee start q.
    let framed = answer_framed c.frames_keep_their_laws.ensures (driven_by g.D.Debuggee.shown g.D.Debuggee.follows limits debuggee) c.each_schedule_agrees.ensures.agrees (both_of c.args.self.now) c.deref.result.now start c.in-Some.request_seq c.args.terminal q c.in-Ok.ensures.reads_back (c.deref.ensures.value ∙ c.in-Ok.ensures.bytes) in
    rw (memory_alone c.in-Err-write_lines.fault c.unwritten.result c.args.self.now.reader c.deref.result.now c.in-Err-write_lines.ensures.unwritten c.unwritten.ensures framed) (inr tt)

pub returns-in_err-down-clause-stops : goal.returns-in_err-down-clause-stops
returns-in_err-down-clause-stops g c =
    let p = err_from_is_err_and c.from_residual.result c.from_residual.ensures.1 in
    rw (p.1, p.2) (λ limits debuggee start q.
    let drive = driven_by g.D.Debuggee.shown g.D.Debuggee.follows limits debuggee in
    let may : MayAnswer c.args.self.now.client c.in-Some.request_seq c.args.terminal = record { plain = c.requires.plain; oldest = sym c.in-Some.ensures.oldest; free = c.in-Ok.ensures.answered; reads_back = c.in-Ok.ensures.reads_back } in
    let w = subst (λ (z : List ℕ). WritesLines limits c.write_lines.new.reader Client z c.args.self.now.transcript.items c.write_lines.new.transcript.items) c.deref.ensures.value (c.in-Ok-write_lines.ensures.lines limits q.at.reader_at) in
    let said = client_said (after_terminal_response c.in-Some.request_seq start.client) (next_terminal_response start.client c.in-Some.request_seq c.args.terminal ∷ []) start in
    let h = answer_sent c.frames_keep_their_laws.ensures drive c.each_schedule_agrees.ensures.agrees (both_of c.args.self.now) c.answer.new.self c.write_lines.new.reader c.write_lines.new.transcript.items c.in-Ok.response.items start c.in-Some.request_seq c.args.terminal q may c.in-Ok.ensures.bytes c.in-Ok.ensures.session c.in-Ok.ensures.goes_on w in
    answer_stops c.frames_keep_their_laws.ensures drive c.each_schedule_agrees.ensures.agrees (both_of c.args.self.now) start c.in-Some.request_seq c.args.terminal c.in_err-down.field-0.0 c.deliver_up.new.self.adapter.debuggee c.args.line q may
    (c.in_err-down.ensures.stops limits debuggee said (subst (λ (z : List ℕ). HasDelivered drive said (both c.answer.new.self c.args.self.now.adapter c.write_lines.new.reader c.write_lines.new.transcript.items) z []) (sym c.deref-2.ensures.value) h)))

pub returns-in_err-settle-clause-stops : goal.returns-in_err-settle-clause-stops
returns-in_err-settle-clause-stops g c =
    let p = err_from_is_err_and c.from_residual-in_err-settle.result c.from_residual-in_err-settle.ensures.1 in
    rw (p.1, p.2) (λ limits debuggee start q.
    let drive = driven_by g.D.Debuggee.shown g.D.Debuggee.follows limits debuggee in
    let may : MayAnswer c.args.self.now.client c.in-Some.request_seq c.args.terminal = record { plain = c.requires.plain; oldest = sym c.in-Some.ensures.oldest; free = c.in-Ok.ensures.answered; reads_back = c.in-Ok.ensures.reads_back } in
    let w = subst (λ (z : List ℕ). WritesLines limits c.write_lines.new.reader Client z c.args.self.now.transcript.items c.write_lines.new.transcript.items) c.deref.ensures.value (c.in-Ok-write_lines.ensures.lines limits q.at.reader_at) in
    let said = client_said (after_terminal_response c.in-Some.request_seq start.client) (next_terminal_response start.client c.in-Some.request_seq c.args.terminal ∷ []) start in
    let h = answer_sent c.frames_keep_their_laws.ensures drive c.each_schedule_agrees.ensures.agrees (both_of c.args.self.now) c.answer.new.self c.write_lines.new.reader c.write_lines.new.transcript.items c.in-Ok.response.items start c.in-Some.request_seq c.args.terminal q may c.in-Ok.ensures.bytes c.in-Ok.ensures.session c.in-Ok.ensures.goes_on w in
    answer_stops c.frames_keep_their_laws.ensures drive c.each_schedule_agrees.ensures.agrees (both_of c.args.self.now) start c.in-Some.request_seq c.args.terminal c.in_err-settle.field-0.0 c.settle.new.self.adapter.debuggee c.args.line q may
    (c.in_err-settle.ensures.stops limits debuggee said (c.in_ok-down.ensures.delivered limits debuggee said (subst (λ (z : List ℕ). HasDelivered drive said (both c.answer.new.self c.args.self.now.adapter c.write_lines.new.reader c.write_lines.new.transcript.items) z []) (sym c.deref-2.ensures.value) h))))

use Rattle.std.proofs.Common.{◌++◌, codes, ap, sym, ◌∙◌}
use Rattle.dap_decision.specs.Table.{is_phase}
use Rattle.dap_decision.specs.declared.phase.Phase.{Phase}
use Rattle.dap_decision.specs.declared.phase.Phase.TheVariants.{Ended}
use Rattle.dap_frame.specs.Written.{frame_of}
use Rattle.dap_adapter.proofs.Appending.{nothing_used}
use Rattle.dap_adapter.proofs.Joining.{first_stops, first_ends, then_ok, then_err_open, parts_are, ok_of, err_of, piece_of, stop_of}
use Rattle.dap_adapter.proofs.adapter.Adapter.answer_body.Goals as goal

pub returns-then-is_ended-clause-answers : goal.returns-then-is_ended-clause-answers
returns-then-is_ended-clause-answers g c =
    nothing_used g.D.Debuggee.shown g.D.Debuggee.follows c.args.self.now (frame_of c.args.body.now) c.args.out.now.items (ap (λ (p : Phase). is_phase Ended p) (sym c.phase.ensures) ∙ (sym c.is_ended.ensures ∙ c.if-is_ended.true))

pub returns-in-Ok-false-clause-answers : goal.returns-in-Ok-false-clause-answers
returns-in-Ok-false-clause-answers g c =
    ok_of g.D.Debuggee.shown g.D.Debuggee.follows c.args.self.now c.answer_in_two-in-Ok-false.new.self ((codes "Content-Length: " ++ c.as_bytes-text.result.now) ++ (codes "\r\n\r\n" ++ c.args.body.now)) (frame_of c.args.body.now) c.args.out.now.items c.answer_in_two-in-Ok-false.new.out.items (parts_are c.as_bytes-text.result.now c.args.body.now (c.as_bytes-text.ensures.value ∙ c.format.ensures.text)) c.answer_in_two-in-Ok-false.result
    (then_ok g.D.Debuggee.shown g.D.Debuggee.follows c.args.self.now c.answer_in_two.new.self c.answer_in_two-in-Ok-false.new.self (codes "Content-Length: " ++ c.as_bytes-text.result.now) (codes "\r\n\r\n" ++ c.args.body.now) c.args.out.now.items c.answer_in_two.new.out.items c.answer_in_two-in-Ok-false.new.out.items _ c.in-Ok-false.field-0-test c.in-Ok-false.ensures.answers c.answer_in_two-in-Ok-false.result c.answer_in_two-in-Ok-false.ensures.answers)

pub returns-in-Ok-false-clause-stops : goal.returns-in-Ok-false-clause-stops
returns-in-Ok-false-clause-stops g c =
    err_of g.D.Debuggee.shown g.D.Debuggee.follows c.args.self.now c.answer_in_two-in-Ok-false.new.self ((codes "Content-Length: " ++ c.as_bytes-text.result.now) ++ (codes "\r\n\r\n" ++ c.args.body.now)) (frame_of c.args.body.now) c.args.out.now.items c.answer_in_two-in-Ok-false.new.out.items (parts_are c.as_bytes-text.result.now c.args.body.now (c.as_bytes-text.ensures.value ∙ c.format.ensures.text)) c.answer_in_two-in-Ok-false.result
    (then_err_open g.D.Debuggee.shown g.D.Debuggee.follows c.args.self.now c.answer_in_two.new.self c.answer_in_two-in-Ok-false.new.self (codes "Content-Length: " ++ c.as_bytes-text.result.now) (codes "\r\n\r\n" ++ c.args.body.now) c.args.out.now.items c.answer_in_two.new.out.items c.answer_in_two-in-Ok-false.new.out.items _ c.in-Ok-false.field-0-test c.in-Ok-false.ensures.answers c.answer_in_two-in-Ok-false.result c.answer_in_two-in-Ok-false.ensures.stops)

pub returns-in-Ok-true-clause-answers : goal.returns-in-Ok-true-clause-answers
returns-in-Ok-true-clause-answers g c =
    piece_of g.D.Debuggee.shown g.D.Debuggee.follows c.args.self.now c.answer_in_two.new.self ((codes "Content-Length: " ++ c.as_bytes-text.result.now) ++ (codes "\r\n\r\n" ++ c.args.body.now)) (frame_of c.args.body.now) c.args.out.now.items c.answer_in_two.new.out.items (parts_are c.as_bytes-text.result.now c.args.body.now (c.as_bytes-text.ensures.value ∙ c.format.ensures.text))
    (first_ends g.D.Debuggee.shown g.D.Debuggee.follows c.args.self.now c.answer_in_two.new.self (codes "Content-Length: " ++ c.as_bytes-text.result.now) (codes "\r\n\r\n" ++ c.args.body.now) c.args.out.now.items c.answer_in_two.new.out.items _ c.in-Ok-true.field-0-test c.in-Ok-true.ensures.answers)

pub returns-in-Err-clause-stops : goal.returns-in-Err-clause-stops
returns-in-Err-clause-stops g c = λ still.
    stop_of g.D.Debuggee.shown g.D.Debuggee.follows c.args.self.now c.answer_in_two.new.self ((codes "Content-Length: " ++ c.as_bytes-text.result.now) ++ (codes "\r\n\r\n" ++ c.args.body.now)) (frame_of c.args.body.now) c.args.out.now.items c.answer_in_two.new.out.items (parts_are c.as_bytes-text.result.now c.args.body.now (c.as_bytes-text.ensures.value ∙ c.format.ensures.text)) c.in-Err.fault
    (first_stops g.D.Debuggee.shown g.D.Debuggee.follows c.args.self.now c.answer_in_two.new.self (codes "Content-Length: " ++ c.as_bytes-text.result.now) (codes "\r\n\r\n" ++ c.args.body.now) c.args.out.now.items c.answer_in_two.new.out.items c.in-Err.fault c.in-Err.ensures.stops)

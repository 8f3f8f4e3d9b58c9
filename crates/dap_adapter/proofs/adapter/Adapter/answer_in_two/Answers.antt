use Rattle.dap_adapter.proofs.Joining.{first_stops, first_ends, then_ok, then_err}
use Rattle.dap_adapter.proofs.adapter.Adapter.answer_in_two.Goals as goal

pub returns-in-Ok-false-clause-answers : goal.returns-in-Ok-false-clause-answers
returns-in-Ok-false-clause-answers g c =
    then_ok g.D.Debuggee.shown g.D.Debuggee.follows c.args.self.now c.answer.new.self c.answer-in-Ok-false.new.self c.args.front.now c.args.back.now c.args.out.now.items c.answer.new.out.items c.answer-in-Ok-false.new.out.items _ c.in-Ok-false.field-0-test c.in-Ok-false.ensures.answers
    c.answer-in-Ok-false.result c.answer-in-Ok-false.ensures.answers

pub returns-in-Ok-false-clause-stops : goal.returns-in-Ok-false-clause-stops
returns-in-Ok-false-clause-stops g c =
    then_err g.D.Debuggee.shown g.D.Debuggee.follows c.args.self.now c.answer.new.self c.answer-in-Ok-false.new.self c.args.front.now c.args.back.now c.args.out.now.items c.answer.new.out.items c.answer-in-Ok-false.new.out.items _ c.in-Ok-false.field-0-test c.in-Ok-false.ensures.answers
    c.answer-in-Ok-false.result c.in-Ok-false.ensures.open c.answer-in-Ok-false.ensures.stops

pub returns-in-Ok-true-clause-answers : goal.returns-in-Ok-true-clause-answers
returns-in-Ok-true-clause-answers g c = first_ends g.D.Debuggee.shown g.D.Debuggee.follows c.args.self.now c.answer.new.self c.args.front.now c.args.back.now c.args.out.now.items c.answer.new.out.items _ c.in-Ok-true.field-0-test c.in-Ok-true.ensures.answers

pub returns-in-Err-clause-stops : goal.returns-in-Err-clause-stops
returns-in-Err-clause-stops g c = first_stops g.D.Debuggee.shown g.D.Debuggee.follows c.args.self.now c.answer.new.self c.args.front.now c.args.back.now c.args.out.now.items c.answer.new.out.items c.in-Err.fault (c.in-Err.ensures.stops c.requires)

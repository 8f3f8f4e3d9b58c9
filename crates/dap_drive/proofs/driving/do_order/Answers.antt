use Rattle.dap_drive.specs.declared.script.Order.TheVariants.{Send, Answer, Turn, Poll, Run}
use Rattle.dap_drive.specs.PrivateHeld.{driven_by, both_of}
use Rattle.dap_drive.proofs.Scripting.{line_done, turn_line, poll_line, line_ends_early, order_line_stops}
use Rattle.dap_drive.proofs.driving.do_order.Goals as goal

pub send-requires-clause-plain : goal.send-requires-clause-plain
send-requires-clause-plain g c = rw c.in-Ok-Send.field-0-is at c.in-Ok-Send.ensures.plain

pub returns-in-Ok-clause-done : goal.returns-in-Ok-clause-done
returns-in-Ok-clause-done g c = λ limits debuggee start q. line_done (driven_by g.D.Debuggee.shown g.D.Debuggee.follows limits debuggee) c.args.text.now (Send c.in-Ok-Send.call) start (both_of c.send.new.self) (rw c.in-Ok-Send.field-0-is at c.in-Ok-Send.ensures.gives) (c.in-Ok.ensures.sent limits debuggee start q)

pub returns-in-Ok-Send-clause-stops : goal.returns-in-Ok-Send-clause-stops
returns-in-Ok-Send-clause-stops g c = λ limits debuggee start q. order_line_stops (driven_by g.D.Debuggee.shown g.D.Debuggee.follows limits debuggee) (Send c.in-Ok-Send.call) c.in-Err.fault c.send.new.self.adapter.debuggee c.args.number c.args.text.now start (rw c.in-Ok-Send.field-0-is at c.in-Ok-Send.ensures.gives) (c.in-Err.ensures.stops limits debuggee start q)

pub answer-requires-clause-plain : goal.answer-requires-clause-plain
answer-requires-clause-plain g c = rw c.in-Ok-Answer.field-0-is at c.in-Ok-Answer.ensures.plain

pub returns-in-Ok-answer-clause-done : goal.returns-in-Ok-answer-clause-done
returns-in-Ok-answer-clause-done g c = λ limits debuggee start q. line_done (driven_by g.D.Debuggee.shown g.D.Debuggee.follows limits debuggee) c.args.text.now (Answer c.in-Ok-Answer.terminal) start (both_of c.answer.new.self) (rw c.in-Ok-Answer.field-0-is at c.in-Ok-Answer.ensures.gives) (c.in-Ok-answer.ensures.answered limits debuggee start q)

pub returns-in-Ok-Answer-clause-stops : goal.returns-in-Ok-Answer-clause-stops
returns-in-Ok-Answer-clause-stops g c = λ limits debuggee start q. order_line_stops (driven_by g.D.Debuggee.shown g.D.Debuggee.follows limits debuggee) (Answer c.in-Ok-Answer.terminal) c.in-Err-answer.fault c.answer.new.self.adapter.debuggee c.args.number c.args.text.now start (rw c.in-Ok-Answer.field-0-is at c.in-Ok-Answer.ensures.gives) (c.in-Err-answer.ensures.stops limits debuggee start q)

pub returns-in-Ok-turn-clause-done : goal.returns-in-Ok-turn-clause-done
returns-in-Ok-turn-clause-done g c = λ limits debuggee start q. turn_line (driven_by g.D.Debuggee.shown g.D.Debuggee.follows limits debuggee) c.args.text.now c.in-Ok-turn.field-0 start (both_of c.turn.new.self) (rw c.in-Ok-Turn.field-0-is at c.in-Ok-Turn.ensures.gives) (c.in-Ok-turn.ensures.turned limits debuggee start q)

pub returns-in-Ok-poll-clause-done : goal.returns-in-Ok-poll-clause-done
returns-in-Ok-poll-clause-done g c = λ limits debuggee start q. poll_line (driven_by g.D.Debuggee.shown g.D.Debuggee.follows limits debuggee) c.args.text.now c.in-Ok-poll.field-0 start (both_of c.poll.new.self) (rw c.in-Ok-Poll.field-0-is at c.in-Ok-Poll.ensures.gives) (c.in-Ok-poll.ensures.polled limits debuggee start q)

pub returns-in-Ok-run-clause-done : goal.returns-in-Ok-run-clause-done
returns-in-Ok-run-clause-done g c = λ limits debuggee start q. line_done (driven_by g.D.Debuggee.shown g.D.Debuggee.follows limits debuggee) c.args.text.now Run start (both_of c.run.new.self) (rw c.in-Ok-Run.field-0-is at c.in-Ok-Run.ensures.gives) (c.in-Ok-run.ensures.ran limits debuggee start q)

pub returns-in-Ok-Turn-clause-stops : goal.returns-in-Ok-Turn-clause-stops
returns-in-Ok-Turn-clause-stops g c = λ limits debuggee start q. line_ends_early (driven_by g.D.Debuggee.shown g.D.Debuggee.follows limits debuggee) Turn c.in-Err-turn.fault c.turn.new.self.adapter.debuggee c.args.number c.args.text.now start (rw c.in-Ok-Turn.field-0-is at c.in-Ok-Turn.ensures.gives) (c.in-Err-turn.ensures.stops limits debuggee start q)

pub returns-in-Ok-Poll-clause-stops : goal.returns-in-Ok-Poll-clause-stops
returns-in-Ok-Poll-clause-stops g c = λ limits debuggee start q. line_ends_early (driven_by g.D.Debuggee.shown g.D.Debuggee.follows limits debuggee) Poll c.in-Err-poll.fault c.poll.new.self.adapter.debuggee c.args.number c.args.text.now start (rw c.in-Ok-Poll.field-0-is at c.in-Ok-Poll.ensures.gives) (c.in-Err-poll.ensures.stops limits debuggee start q)

pub returns-in-Ok-Run-clause-stops : goal.returns-in-Ok-Run-clause-stops
returns-in-Ok-Run-clause-stops g c = λ limits debuggee start q. line_ends_early (driven_by g.D.Debuggee.shown g.D.Debuggee.follows limits debuggee) Run c.in-Err-run.fault c.run.new.self.adapter.debuggee c.args.number c.args.text.now start (rw c.in-Ok-Run.field-0-is at c.in-Ok-Run.ensures.gives) (c.in-Err-run.ensures.stops limits debuggee start q)

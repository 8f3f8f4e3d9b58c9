use Rattle.dap_ways.proofs.Agreeing.{each-byte-schedule-agrees, references-agree-in-bytes, references-agree-where-stops-last}
use Rattle.dap_ways.proofs.laws.each_byte_schedule_agrees.Goals as goal

pub returns-clause-agrees : goal.returns-clause-agrees
returns-clause-agrees g c = each-byte-schedule-agrees c.each_stream_has_one_split.ensures c.moves_are_in_order.ensures.messages g.D.Debuggee.shown g.D.Debuggee.follows c.each_schedule_agrees.ensures.agrees c.each_schedule_agrees.ensures.rules

pub returns-clause-references : goal.returns-clause-references
returns-clause-references g c = references-agree-in-bytes c.each_stream_has_one_split.ensures c.moves_are_in_order.ensures.messages g.D.Debuggee.shown g.D.Debuggee.follows c.each_schedule_agrees.ensures.agrees c.each_schedule_agrees.ensures.rules c.references_agree_while_stops_last.ensures.agree c.references_agree_while_stops_last.ensures.legal

pub returns-clause-lasting : goal.returns-clause-lasting
returns-clause-lasting g c = references-agree-where-stops-last c.each_stream_has_one_split.ensures c.moves_are_in_order.ensures.messages g.D.Debuggee.shown g.D.Debuggee.follows c.each_schedule_agrees.ensures.agrees c.each_schedule_agrees.ensures.rules c.references_agree_while_stops_last.ensures.agree c.references_agree_while_stops_last.ensures.legal

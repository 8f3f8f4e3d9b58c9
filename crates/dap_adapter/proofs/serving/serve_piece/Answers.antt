use Rattle.std.proofs.Common.{◌+◌, ap, sym, ◌∙◌, arith}
use Rattle.dap_decision.specs.declared.phase.Phase.{Phase}
use Rattle.dap_decision.specs.declared.phase.Phase.TheVariants.{Ended}
use Rattle.dap_decision.specs.Table.{is_phase}
use Rattle.dap_adapter.specs.Run.{to_take}
use Rattle.dap_adapter.specs.PrivateServing.{way_of, point_of}
use Rattle.dap_adapter.proofs.Leading.{leads_none, within_rest, part_used, part_breaks, through_ended, through_all}
use Rattle.dap_adapter.proofs.serving.serve_piece.Goals as goal

pub loop-at-init : goal.loop-at-init
loop-at-init g c = record {
  within = omega arith;
  leads = λ going. leads_none (way_of g.S.Outgoing.puts g.S.Outgoing.refuses g.D.Debuggee.shown g.D.Debuggee.follows) (point_of c.args.channel.now c.args.sink.now c.args.adapter.now) to_take;
  going = λ going. going;
}

pub returns-in-Err-clause-halts : goal.returns-in-Err-clause-halts
returns-in-Err-clause-halts g c = λ going.
    part_breaks (way_of g.S.Outgoing.puts g.S.Outgoing.refuses g.D.Debuggee.shown g.D.Debuggee.follows) (point_of c.args.channel.now c.args.sink.now c.args.adapter.now) (point_of c.loop-at.channel c.loop-at.sink c.loop-at.adapter) (point_of c.serve_frame.new.channel c.serve_frame.new.sink c.serve_frame.new.adapter) c.loop-at.at c.args.piece.now c.split_at.result.1.now c.in-Err.fault c.split_at.ensures.back
    (c.loop-at.invariant.leads going) (c.in-Err.ensures.halts (c.loop-at.invariant.going going))

pub returns-then-is_ended-clause-uses_up : goal.returns-then-is_ended-clause-uses_up
returns-then-is_ended-clause-uses_up g c = λ going.
    through_ended (way_of g.S.Outgoing.puts g.S.Outgoing.refuses g.D.Debuggee.shown g.D.Debuggee.follows) (point_of c.args.channel.now c.args.sink.now c.args.adapter.now) (point_of c.serve_frame.new.channel c.serve_frame.new.sink c.serve_frame.new.adapter) (c.loop-at.at + c.in-Ok.used) c.args.piece.now
    (part_used (way_of g.S.Outgoing.puts g.S.Outgoing.refuses g.D.Debuggee.shown g.D.Debuggee.follows) (point_of c.args.channel.now c.args.sink.now c.args.adapter.now) (point_of c.loop-at.channel c.loop-at.sink c.loop-at.adapter) (point_of c.serve_frame.new.channel c.serve_frame.new.sink c.serve_frame.new.adapter) c.loop-at.at c.in-Ok.used c.args.piece.now c.split_at.result.1.now c.split_at.ensures.back (c.loop-at.invariant.leads going) (c.in-Ok.ensures.uses (c.loop-at.invariant.going going)))
    (ap (λ (p : Phase). is_phase Ended p) (sym c.phase.ensures) ∙ (sym c.is_ended.ensures ∙ c.if-is_ended.true))

pub loop-at-preserved : goal.loop-at-preserved
loop-at-preserved g c = record {
  within = within_rest (way_of g.S.Outgoing.puts g.S.Outgoing.refuses g.D.Debuggee.shown g.D.Debuggee.follows) _ _ _ _ c.split_at.ensures.back c.loop-at.invariant.within c.in-Ok.ensures.within;
  leads = λ going. part_used (way_of g.S.Outgoing.puts g.S.Outgoing.refuses g.D.Debuggee.shown g.D.Debuggee.follows) (point_of c.args.channel.now c.args.sink.now c.args.adapter.now) (point_of c.loop-at.channel c.loop-at.sink c.loop-at.adapter) (point_of c.serve_frame.new.channel c.serve_frame.new.sink c.serve_frame.new.adapter) c.loop-at.at c.in-Ok.used c.args.piece.now c.split_at.result.1.now c.split_at.ensures.back (c.loop-at.invariant.leads going) (c.in-Ok.ensures.uses (c.loop-at.invariant.going going));
  going = λ going. ap (λ (p : Phase). is_phase Ended p) (sym c.phase.ensures) ∙ (sym c.is_ended.ensures ∙ c.if-is_ended.false);
}

pub returns-clause-uses_up : goal.returns-clause-uses_up
returns-clause-uses_up g c = λ going.
    through_all (way_of g.S.Outgoing.puts g.S.Outgoing.refuses g.D.Debuggee.shown g.D.Debuggee.follows) (point_of c.args.channel.now c.args.sink.now c.args.adapter.now) (point_of c.loop-at.channel c.loop-at.sink c.loop-at.adapter) c.loop-at.at c.args.piece.now c.loop-at-test.false (c.loop-at.invariant.leads going) (c.loop-at.invariant.going going)

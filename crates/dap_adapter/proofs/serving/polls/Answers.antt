use Rattle.std.proofs.Common.{◌≡◌, ℕ, ◌+◌, [], refl, subst, ◌∙◌, arith}
use Rattle.dap_adapter.specs.PrivateServing.{way_of, point_of, next_after_polls, Quietly}
use Rattle.dap_adapter.specs.Run.{Next, to_take, to_poll}
use Rattle.dap_adapter.proofs.Leading.{leads_breaks, quietly_none, quietly_then}
use Rattle.dap_adapter.proofs.Polling.{polling_below}
use Rattle.dap_adapter.proofs.serving.polls.Goals as goal

pub loop-poll-init : goal.loop-poll-init
loop-poll-init g c = record { quietly = quietly_none (way_of g.S.Outgoing.puts g.S.Outgoing.refuses g.D.Debuggee.shown g.D.Debuggee.follows) (point_of c.args.channel.now c.args.sink.now c.args.adapter.now) (to_poll 0); intake = refl }

pub loop-poll-preserved : goal.loop-poll-preserved
loop-poll-preserved g c =
    let here = subst (λ (x : Next). Quietly (way_of g.S.Outgoing.puts g.S.Outgoing.refuses g.D.Debuggee.shown g.D.Debuggee.follows) (point_of c.args.channel.now c.args.sink.now c.args.adapter.now) (to_poll 0) (point_of c.loop-poll.channel c.loop-poll.sink c.loop-poll.adapter) x) (polling_below c.loop-poll._poll (omega arith)) c.loop-poll.invariant.quietly in
    let more = rw c.in-Ok-true.field-0-test at (c.in-Ok-true.ensures.goes c.loop-poll._poll) in
    record {
      quietly = quietly_then (way_of g.S.Outgoing.puts g.S.Outgoing.refuses g.D.Debuggee.shown g.D.Debuggee.follows) (point_of c.args.channel.now c.args.sink.now c.args.adapter.now) (point_of c.loop-poll.channel c.loop-poll.sink c.loop-poll.adapter) (point_of c.poll_out.new.channel c.poll_out.new.sink c.poll_out.new.adapter) (to_poll 0) (to_poll c.loop-poll._poll) (next_after_polls (c.loop-poll._poll + 1)) here more;
      intake = c.in-Ok-true.ensures.intake ∙ c.loop-poll.invariant.intake;
    }

pub returns-in-Ok-false-clause-told : goal.returns-in-Ok-false-clause-told
returns-in-Ok-false-clause-told g c =
    let here = subst (λ (x : Next). Quietly (way_of g.S.Outgoing.puts g.S.Outgoing.refuses g.D.Debuggee.shown g.D.Debuggee.follows) (point_of c.args.channel.now c.args.sink.now c.args.adapter.now) (to_poll 0) (point_of c.loop-poll.channel c.loop-poll.sink c.loop-poll.adapter) x) (polling_below c.loop-poll._poll (omega arith)) c.loop-poll.invariant.quietly in
    let last = rw c.in-Ok-false.field-0-test at (c.in-Ok-false.ensures.goes c.loop-poll._poll) in
    quietly_then (way_of g.S.Outgoing.puts g.S.Outgoing.refuses g.D.Debuggee.shown g.D.Debuggee.follows) (point_of c.args.channel.now c.args.sink.now c.args.adapter.now) (point_of c.loop-poll.channel c.loop-poll.sink c.loop-poll.adapter) (point_of c.poll_out.new.channel c.poll_out.new.sink c.poll_out.new.adapter) (to_poll 0) (to_poll c.loop-poll._poll) to_take here last

pub returns-in-Err-clause-halts : goal.returns-in-Err-clause-halts
returns-in-Err-clause-halts g c = λ piece.
    let here = subst (λ (x : Next). Quietly (way_of g.S.Outgoing.puts g.S.Outgoing.refuses g.D.Debuggee.shown g.D.Debuggee.follows) (point_of c.args.channel.now c.args.sink.now c.args.adapter.now) (to_poll 0) (point_of c.loop-poll.channel c.loop-poll.sink c.loop-poll.adapter) x) (polling_below c.loop-poll._poll (omega arith)) c.loop-poll.invariant.quietly in
    leads_breaks (way_of g.S.Outgoing.puts g.S.Outgoing.refuses g.D.Debuggee.shown g.D.Debuggee.follows) (point_of c.args.channel.now c.args.sink.now c.args.adapter.now) (point_of c.loop-poll.channel c.loop-poll.sink c.loop-poll.adapter) (point_of c.poll_out.new.channel c.poll_out.new.sink c.poll_out.new.adapter) (to_poll 0) (to_poll c.loop-poll._poll) [] piece c.in-Err.fault here.leads (c.in-Err.ensures.halts c.loop-poll._poll piece)

pub returns-clause-told : goal.returns-clause-told
returns-clause-told g c =
    let at : c.loop-poll._poll ≡ 65536 = omega (arith, c.loop-poll-test.false, c.loop-poll.auto._poll-end) in
    subst (λ (n : ℕ). Quietly (way_of g.S.Outgoing.puts g.S.Outgoing.refuses g.D.Debuggee.shown g.D.Debuggee.follows) (point_of c.args.channel.now c.args.sink.now c.args.adapter.now) (to_poll 0) (point_of c.loop-poll.channel c.loop-poll.sink c.loop-poll.adapter) (next_after_polls n)) at c.loop-poll.invariant.quietly

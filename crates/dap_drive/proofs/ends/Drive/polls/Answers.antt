use Rattle.std.proofs.Common.{arith}
use Rattle.std.proofs.lemmas.Result.{err_from_is_err_and}
use Rattle.dap_drive.specs.PrivateHeld.{driven_by, both_of}
use Rattle.dap_drive.proofs.Doing.{run_polls, run_ends, run_enough, run_poll_stops}
use Rattle.dap_drive.proofs.ends.Drive.polls.Goals as goal

pub returns-then-last-clause-ran : goal.returns-then-last-clause-ran
returns-then-last-clause-ran g c = λ limits debuggee start q.
    let h = c.loop-poll.invariant.ran limits debuggee start q in
    run_ends c.frames_keep_their_laws.ensures (driven_by g.D.Debuggee.shown g.D.Debuggee.follows limits debuggee) c.each_schedule_agrees.ensures.agrees (both_of c.poll.new.self) start h.world c.loop-poll._poll c.in_ok-last.last h.done (omega arith) c.if-last.true (c.in_ok-last.ensures.polled limits debuggee h.world h.quiet)

pub loop-poll-preserved : goal.loop-poll-preserved
loop-poll-preserved g c = record {
  reading = c.in_ok-last.ensures.reading;
  ran = λ limits debuggee start q.
      let h = c.loop-poll.invariant.ran limits debuggee start q in
      run_polls c.frames_keep_their_laws.ensures (driven_by g.D.Debuggee.shown g.D.Debuggee.follows limits debuggee) c.each_schedule_agrees.ensures.agrees (both_of c.poll.new.self) start h.world c.loop-poll._poll c.in_ok-last.last h.done (omega arith) c.if-last.false (c.in_ok-last.ensures.polled limits debuggee h.world h.quiet);
}

pub returns-clause-ran : goal.returns-clause-ran
returns-clause-ran g c = λ limits debuggee start q. run_enough c.frames_keep_their_laws.ensures (driven_by g.D.Debuggee.shown g.D.Debuggee.follows limits debuggee) c.each_schedule_agrees.ensures.agrees (both_of c.loop-poll.self) start c.loop-poll._poll (omega arith) (omega arith) (c.loop-poll.invariant.ran limits debuggee start q)

pub returns-in_err-last-clause-stops : goal.returns-in_err-last-clause-stops
returns-in_err-last-clause-stops g c =
    let p = err_from_is_err_and c.from_residual.result c.from_residual.ensures.1 in
    rw (p.1, p.2) (λ limits debuggee start q.
    let h = c.loop-poll.invariant.ran limits debuggee start q in
    run_poll_stops c.frames_keep_their_laws.ensures (driven_by g.D.Debuggee.shown g.D.Debuggee.follows limits debuggee) c.each_schedule_agrees.ensures.agrees start h.world c.loop-poll._poll c.in_err-last.field-0.0 c.poll.new.self.adapter.debuggee h.done (omega arith) (c.in_err-last.ensures.stops limits debuggee h.world h.quiet))

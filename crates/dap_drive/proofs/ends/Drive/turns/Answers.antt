use Rattle.std.proofs.lemmas.Result.{err_from_is_err_and}
use Rattle.dap_drive.specs.PrivateHeld.{driven_by, both_of}
use Rattle.dap_drive.proofs.Doing.{run_begins, run_handles, run_idles, run_turn_stops}
use Rattle.dap_drive.proofs.ends.Drive.turns.Goals as goal

pub turns-init : goal.turns-init
turns-init g c = record {
  reading = c.requires.reading;
  ran = λ limits debuggee start q. run_begins c.frames_keep_their_laws.ensures (driven_by g.D.Debuggee.shown g.D.Debuggee.follows limits debuggee) c.each_schedule_agrees.ensures.agrees (both_of c.args.self.now) start q;
}

pub turns-preserved : goal.turns-preserved
turns-preserved g c = record {
  reading = c.in_ok-more.ensures.reading;
  ran = λ limits debuggee start q.
      let h = c.turns.invariant.ran limits debuggee start q in
      run_handles c.frames_keep_their_laws.ensures (driven_by g.D.Debuggee.shown g.D.Debuggee.follows limits debuggee) c.each_schedule_agrees.ensures.agrees (both_of c.turn.new.self) start h.world c.in_ok-more.more h.done c.if-not-more.false (c.in_ok-more.ensures.turned limits debuggee h.world h.quiet);
}

pub returns-then-not-more-clause-ran : goal.returns-then-not-more-clause-ran
returns-then-not-more-clause-ran g c = λ limits debuggee start q.
    let h = c.turns.invariant.ran limits debuggee start q in
    run_idles c.frames_keep_their_laws.ensures (driven_by g.D.Debuggee.shown g.D.Debuggee.follows limits debuggee) c.each_schedule_agrees.ensures.agrees (both_of c.turn.new.self) start h.world c.in_ok-more.more h.done c.if-not-more.true (c.in_ok-more.ensures.turned limits debuggee h.world h.quiet)

pub returns-in_err-more-clause-stops : goal.returns-in_err-more-clause-stops
returns-in_err-more-clause-stops g c =
    let p = err_from_is_err_and c.from_residual.result c.from_residual.ensures.1 in
    rw (p.1, p.2) (λ limits debuggee start q.
    let h = c.turns.invariant.ran limits debuggee start q in
    run_turn_stops c.frames_keep_their_laws.ensures (driven_by g.D.Debuggee.shown g.D.Debuggee.follows limits debuggee) c.each_schedule_agrees.ensures.agrees start h.world c.in_err-more.field-0.0 c.turn.new.self.adapter.debuggee h.done (c.in_err-more.ensures.stops limits debuggee h.world h.quiet))

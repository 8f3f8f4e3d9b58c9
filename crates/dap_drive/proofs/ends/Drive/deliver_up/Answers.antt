use Rattle.std.proofs.Common.{List, ℕ, ◌<◌, length, sym, ◌∙◌, subst, arith}
use Rattle.std.proofs.Math.ListN.{drop_of_length-le}
use Rattle.std.proofs.lemmas.Result.{err_from_is_err_and}
use Rattle.dap_drive.specs.PrivateHeld.{driven_by, both_of, HasDelivered}
use Rattle.dap_drive.proofs.Doing.{part_by_part}
use Rattle.dap_drive.proofs.ends.Drive.deliver_up.Goals as goal

pub loop-at-preserved : goal.loop-at-preserved
loop-at-preserved g c =
    let some : 0 < length c.split_at.result.1.now = omega (arith, c.split_at.ensures.back_len) in
    record {
      within = omega (arith, c.in_ok-at.ensures.within, c.split_at.ensures.back_len);
      reading = c.in_ok-at.ensures.reading;
      delivered = λ limits debuggee start h. part_by_part
          (λ z. HasDelivered (driven_by g.D.Debuggee.shown g.D.Debuggee.follows limits debuggee) start (both_of c.loop-at.self) z c.loop-at.down.items)
          (λ z. HasDelivered (driven_by g.D.Debuggee.shown g.D.Debuggee.follows limits debuggee) start (both_of c.take_up.new.self) z c.take_up.new.down.items)
          c.loop-at.at c.in_ok-at.field-0 c.args.up.now c.split_at.result.1.now c.split_at.ensures.back (c.in_ok-at.ensures.delivered some limits debuggee start) (c.loop-at.invariant.delivered limits debuggee start h);
      client = c.take_up.ensures.client ∙ c.loop-at.invariant.client;
      limits = c.in_ok-at.ensures.limits ∙ c.loop-at.invariant.limits;
    }

pub returns-clause-delivered : goal.returns-clause-delivered
returns-clause-delivered g c = λ limits debuggee start h.
    subst (λ (z : List ℕ). HasDelivered (driven_by g.D.Debuggee.shown g.D.Debuggee.follows limits debuggee) start (both_of c.loop-at.self) z c.loop-at.down.items)
    (drop_of_length-le c.args.up.now (omega arith)) (c.loop-at.invariant.delivered limits debuggee start h)

pub returns-in_err-at-clause-stops : goal.returns-in_err-at-clause-stops
returns-in_err-at-clause-stops g c =
    let p = err_from_is_err_and c.from_residual.result c.from_residual.ensures.1 in
    let some : 0 < length c.split_at.result.1.now = omega (arith, c.split_at.ensures.back_len) in
    rw (p.1, p.2) (λ limits debuggee start h. c.in_err-at.ensures.stops limits debuggee start
    (subst (λ (z : List ℕ). HasDelivered (driven_by g.D.Debuggee.shown g.D.Debuggee.follows limits debuggee) start (both_of c.loop-at.self) z c.loop-at.down.items) (sym c.split_at.ensures.back) (c.loop-at.invariant.delivered limits debuggee start h)) some)

use Rattle.std.proofs.Common.{ℕ, List, [], length, refl, sym, ◌∙◌, subst, arith}
use Rattle.std.proofs.lemmas.Result.{err_from_is_err_and}
use Rattle.dap_drive.specs.PrivateHeld.{driven_by, both_of, HasDelivered}
use Rattle.dap_drive.proofs.Doing.{all_delivered, hearing_less, round_less, round_spends, no_items, some_items}
use Rattle.dap_drive.proofs.ends.Drive.settle.Goals as goal

pub returns-then-is_empty-clause-settled : goal.returns-then-is_empty-clause-settled
returns-then-is_empty-clause-settled g c = λ limits debuggee start h.
    let before = subst (λ (z : List ℕ). HasDelivered (driven_by g.D.Debuggee.shown g.D.Debuggee.follows limits debuggee) start (both_of c.settle.self) [] z) (sym c.deref.ensures.value) (c.settle.invariant.delivered limits debuggee start h) in
    all_delivered c.frames_keep_their_laws.ensures.one_split (driven_by g.D.Debuggee.shown g.D.Debuggee.follows limits debuggee) start (both_of c.deliver_down.new.self) c.in_ok-up.up.items [] (c.in_ok-up.ensures.delivered limits debuggee start before)
    (no_items c.in_ok-up.up.items c.in_ok-up.up.len (omega (arith, c.in_ok-up.up.ok)) (sym c.is_empty.ensures ∙ c.if-is_empty.true)) refl

pub returns-then-is_empty-clause-less : goal.returns-then-is_empty-clause-less
returns-then-is_empty-clause-less g c =
    let less = hearing_less c.settle.self.client c.deliver_down.new.self.client c.settle.self.adapter c.deliver_down.new.self.adapter 0 (length c.in_ok-up.up.items) c.in_ok-up.ensures.spends c.in_ok-up.ensures.adapter in
    omega (arith, less, c.settle.invariant.less)

pub settle-preserved : goal.settle-preserved
settle-preserved g c =
    let some = some_items c.in_ok-up.up.items c.in_ok-up.up.len (omega (arith, c.in_ok-up.up.ok)) (sym c.is_empty.ensures ∙ c.if-is_empty.false) in
    let less = round_less c.settle.self.client c.deliver_down.new.self.client c.deliver_up.new.self.client c.settle.self.adapter c.deliver_down.new.self.adapter c.deliver_up.new.self.adapter (length c.in_ok-up.up.items) c.kept-kept.result c.in_ok-up.ensures.spends some c.in_ok-up.ensures.adapter c.in_ok-down.ensures.client c.in_ok-down.ensures.limits c.kept-kept.ensures.kept c.kept-kept.ensures.bound in
    record {
      reading = c.in_ok-down.ensures.reading;
      delivered = λ limits debuggee start h.
          let before = subst (λ (z : List ℕ). HasDelivered (driven_by g.D.Debuggee.shown g.D.Debuggee.follows limits debuggee) start (both_of c.settle.self) [] z) (sym c.deref.ensures.value) (c.settle.invariant.delivered limits debuggee start h) in
          let heard = c.in_ok-up.ensures.delivered limits debuggee start before in
          c.in_ok-down.ensures.delivered limits debuggee start (subst (λ (z : List ℕ). HasDelivered (driven_by g.D.Debuggee.shown g.D.Debuggee.follows limits debuggee) start (both_of c.deliver_down.new.self) z []) (sym c.deref-in-settle.ensures.value) heard);
      less = omega (arith, less, c.settle.invariant.less);
    }

pub settle-smaller : goal.settle-smaller
settle-smaller g c =
    let some = some_items c.in_ok-up.up.items c.in_ok-up.up.len (omega (arith, c.in_ok-up.up.ok)) (sym c.is_empty.ensures ∙ c.if-is_empty.false) in
    round_spends c.settle.self.client c.deliver_down.new.self.client c.deliver_up.new.self.client (length c.in_ok-up.up.items) c.in_ok-up.ensures.spends some c.in_ok-down.ensures.client

pub returns-in_err-up-clause-stops : goal.returns-in_err-up-clause-stops
returns-in_err-up-clause-stops g c =
    let p = err_from_is_err_and c.from_residual.result c.from_residual.ensures.1 in
    rw (p.1, p.2) (λ limits debuggee start h. c.in_err-up.ensures.stops limits debuggee start
    (subst (λ (z : List ℕ). HasDelivered (driven_by g.D.Debuggee.shown g.D.Debuggee.follows limits debuggee) start (both_of c.settle.self) [] z) (sym c.deref.ensures.value) (c.settle.invariant.delivered limits debuggee start h)))

pub returns-in_err-down-clause-stops : goal.returns-in_err-down-clause-stops
returns-in_err-down-clause-stops g c =
    let p = err_from_is_err_and c.from_residual-in_err-down.result c.from_residual-in_err-down.ensures.1 in
    rw (p.1, p.2) (λ limits debuggee start h.
    let before = subst (λ (z : List ℕ). HasDelivered (driven_by g.D.Debuggee.shown g.D.Debuggee.follows limits debuggee) start (both_of c.settle.self) [] z) (sym c.deref.ensures.value) (c.settle.invariant.delivered limits debuggee start h) in
    let heard = c.in_ok-up.ensures.delivered limits debuggee start before in
    c.in_err-down.ensures.stops limits debuggee start (subst (λ (z : List ℕ). HasDelivered (driven_by g.D.Debuggee.shown g.D.Debuggee.follows limits debuggee) start (both_of c.deliver_down.new.self) z []) (sym c.deref-in-settle.ensures.value) heard))

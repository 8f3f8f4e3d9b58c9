use Rattle.std.proofs.Common.{◌-◌, take, length, ap, sym, subst}
use Rattle.dap_frame.specs.declared.frames.HeaderEnd.TheVariants.{Open, Whole, TooLong}
use Rattle.dap_frame.specs.PrivateSteps.{EndsAs}
use Rattle.dap_frame.proofs.Streams.{stays_open, too_long}
use Rattle.dap_frame.proofs.frames.gather_header.Goals as goal

pub returns-in-Open-clause-moves : goal.returns-in-Open-clause-moves
returns-in-Open-clause-moves c s xs rest st =
    let made = c.take_header-count in
    let at : EndsAs c.args.bounds.header made.new.ring.items (length c.args.piece.now - made.result.0) Open = subst (EndsAs c.args.bounds.header made.new.ring.items (length c.args.piece.now - made.result.0)) c.in-Open.is made.ensures.ends in
    stays_open _ c.args.ring.now.items made.new.ring.items (take made.result.0 c.args.piece.now) s xs rest st (ap (λ r. r.items) made.ensures.taken) at.0

pub returns-in-TooLong-clause-moves : goal.returns-in-TooLong-clause-moves
returns-in-TooLong-clause-moves c s xs rest st =
    let made = c.take_header-count in
    let at : EndsAs c.args.bounds.header made.new.ring.items (length c.args.piece.now - made.result.0) TooLong = subst (EndsAs c.args.bounds.header made.new.ring.items (length c.args.piece.now - made.result.0)) c.in-TooLong.is made.ensures.ends in
    too_long _ c.args.ring.now.items made.new.ring.items (take made.result.0 c.args.piece.now) s c.clear.new.self.items xs rest st (ap (λ r. r.items) made.ensures.taken) at (ap (λ r. r.items) c.clear.ensures)

pub returns-in-Whole-clause-moves : goal.returns-in-Whole-clause-moves
returns-in-Whole-clause-moves c s xs rest st =
    let made = c.take_header-count in
    let at : EndsAs c.args.bounds.header made.new.ring.items (length c.args.piece.now - made.result.0) Whole = subst (EndsAs c.args.bounds.header made.new.ring.items (length c.args.piece.now - made.result.0)) c.in-Whole.is made.ensures.ends in
    c.begin_body.ensures.moves made.new.ring.items c.args.ring.now.items s xs rest st (record { is = ap (λ r. r.items) made.ensures.taken; ends = at.0; fits = at.1; judged_so = sym c.judge_held-judged.ensures.value })

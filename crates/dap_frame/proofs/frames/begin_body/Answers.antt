use Rattle.std.proofs.Common.{◌++◌, take, ◌∙◌}
use Rattle.dap_frame.proofs.Streams.{refused, body_begins, MovesTo-twice}
use Rattle.dap_frame.proofs.Pieces.{taken_twice}
use Rattle.dap_frame.proofs.frames.begin_body.Goals as goal

pub returns-in-Err-clause-moves : goal.returns-in-Err-clause-moves
returns-in-Err-clause-moves c block held s xs rest st whole =
    refused _ held block (take c.args.count c.args.piece.now) s c.args.ring.now.items xs rest c.in-Err.refusal st whole.is (whole.ends, whole.fits) (whole.judged_so ∙ c.in-Err.is) c.requires.empty

pub returns-in-Ok-clause-moves : goal.returns-in-Ok-clause-moves
returns-in-Ok-clause-moves c block held s xs rest st whole =
    let first = take c.args.count c.args.piece.now in
    let begun = body_begins c.args.bounds held block first s c.args.ring.now.items xs rest c.in-Ok.size st whole.is (whole.ends, whole.fits) (whole.judged_so ∙ c.in-Ok.is) c.requires.empty in
    MovesTo-twice c.args.bounds c.advance_body-stage.result.0 c.advance_body-stage.new.ring.items s xs rest first _ _
    (taken_twice c.args.piece.now c.args.count c.advance_body-stage.result.1)
    (c.advance_body-stage.ensures.moves (s ++ first) xs (rest ++ first) begun)

use Rattle.std.proofs.Common.{ap, arith}
use Rattle.std.proofs.lemmas.List.{length-take}
use Rattle.dap_frame.proofs.Ends.{next_open, next_whole}
use Rattle.dap_frame.proofs.frames.take_line.Goals as goal

pub returns-clause-open : goal.returns-clause-open
returns-clause-open c =
    next_open c.args.ring.now.items c.args.bytes.now c.fill_from_slice.new.self.items c.line_len-count.result c.fill_from_slice.result
    (c.line_len-count.ensures.some c.requires.some) (omega (arith, c.line_len-count.ensures.within)) (ap (λ b. b.items) c.fill_from_slice.ensures.items)
    (omega (arith, length-take c.line_len-count.result c.args.bytes.now, c.fill_from_slice.ensures.count, c.line_len-count.ensures.within, c.len.ensures.len, c.requires.room, c.requires.open.1)) c.requires.open.0 c.line_len-count.ensures.no_feed

pub returns-clause-whole : goal.returns-clause-whole
returns-clause-whole c =
    next_whole c.args.ring.now.items c.args.bytes.now c.fill_from_slice.new.self.items c.line_len-count.result c.fill_from_slice.result
    (c.line_len-count.ensures.some c.requires.some) (omega (arith, c.line_len-count.ensures.within)) (ap (λ b. b.items) c.fill_from_slice.ensures.items)
    (omega (arith, length-take c.line_len-count.result c.args.bytes.now, c.fill_from_slice.ensures.count, c.line_len-count.ensures.within, c.len.ensures.len, c.requires.room, c.requires.open.1)) c.requires.open.0 c.line_len-count.ensures.no_feed

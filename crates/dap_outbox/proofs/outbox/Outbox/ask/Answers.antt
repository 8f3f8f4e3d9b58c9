use Rattle.std.proofs.Common.{◌∙◌}
use Rattle.dap_outbox.proofs.Outboxes.{framed, writes-behind}
use Rattle.dap_outbox.proofs.outbox.Outbox.ask.Goals as goal

pub returns-clause-writes : goal.returns-clause-writes
returns-clause-writes c =
    let text = rw c.next-seq.ensures.number at c.in_ok-append_terminal.ensures.canon in
    let is = c.len-end.ensures ∙ c.self.inside.buffer.ok.0 in
    let after = framed c.self.inside.buffer.items c.append_terminal.new.out.items c.frame_from.new.out.items _ c.len-end.result is text c.in_ok-frame_from.ensures.ok in
    writes-behind _ c.self.inside.start c.self.inside.buffer.items c.frame_from.new.out.items c.args.self.now c.self.inside.numbers c.next-seq.result.1 _ c.self.view_is c.self.invariant
    after c.next-seq.ensures.used c.next-seq.ensures.last c.requires
    (let reads = rw c.next-seq.ensures.number at c.in_ok-append_terminal.ensures.reads_back in λ small _. reads small)

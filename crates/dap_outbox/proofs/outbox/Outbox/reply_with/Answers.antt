use Rattle.std.proofs.Common.{◌∙◌, ◌+◌}
use Rattle.dap_body.specs.Body.{data_in}
use Rattle.dap_outbox.proofs.Outboxes.{framed, reads-within, writes-behind}
use Rattle.dap_outbox.proofs.outbox.Outbox.reply_with.Goals as goal

pub returns-clause-writes : goal.returns-clause-writes
returns-clause-writes c =
    let text = rw (c.as_str-command.ensures, c.next-seq.ensures.number) at c.in_ok-append_answer.ensures.canon in
    let reads = rw (c.as_str-command.ensures, c.next-seq.ensures.number) at c.in_ok-append_answer.ensures.reads_back in
    let is = c.len-end.ensures ∙ c.self.inside.buffer.ok.0 in
    let after = framed c.self.inside.buffer.items c.append_answer.new.out.items c.frame_from.new.out.items _ c.len-end.result is text c.in_ok-frame_from.ensures.ok in
    λ most short.
    writes-behind most c.self.inside.start c.self.inside.buffer.items c.frame_from.new.out.items c.args.self.now c.self.inside.numbers c.next-seq.result.1 _ c.self.view_is c.self.invariant
    after c.next-seq.ensures.used c.next-seq.ensures.last c.requires
    (reads-within most (c.args.self.now.numbers.used + 1) c.args.request.now (data_in c.args.body) short reads)

use Rattle.std.proofs.Common.{◌∙◌, ◌+◌, ap, arith, length, length-append}
use Rattle.dap_envelope.specs.Canon.{canon}
use Rattle.dap_outbox.specs.Draft.{ask_named, message_of}
use Rattle.dap_outbox.proofs.Outboxes.{framed, reads-text, writes-behind}
use Rattle.dap_outbox.proofs.outbox.Outbox.ask_named.Goals as goal

pub returns-clause-writes : goal.returns-clause-writes
returns-clause-writes c =
    let m = message_of (c.args.self.now.numbers.used + 1) (ask_named c.args.command.now c.args.arguments.now) in
    let text = rw c.next-seq.ensures.number at c.in_ok-append_named_request.ensures.canon in
    let reads = rw c.next-seq.ensures.number at c.in_ok-append_named_request.ensures.reads_back in
    let is = c.len-end.ensures ∙ c.self.inside.buffer.ok.0 in
    let after = framed c.self.inside.buffer.items c.append_named_request.new.out.items c.frame_from.new.out.items _ c.len-end.result is text c.in_ok-frame_from.ensures.ok in
    λ _. writes-behind _ c.self.inside.start c.self.inside.buffer.items c.frame_from.new.out.items c.args.self.now c.self.inside.numbers c.next-seq.result.1 _ c.self.view_is c.self.invariant
    after c.next-seq.ensures.used c.next-seq.ensures.last c.requires.left
    (λ small name.
    reads-text c.args.most m
    (let measured = c.if-len-end.false in let total = c.len.ensures ∙ c.append_named_request.new.out.ok.0 in let whole = ap length text ∙ length-append c.self.inside.buffer.items (canon m) in omega arith)
    (reads small name))

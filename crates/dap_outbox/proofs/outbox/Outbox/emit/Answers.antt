use Rattle.std.proofs.Common.{◌+◌, ◌∙◌, sym, subst}
use Rattle.dap_message.specs.MessageParts.{AdapterEvent}
use Rattle.dap_outbox.specs.Draft.{emit}
use Rattle.dap_outbox.specs.Outbox.{OutboxState, AppendsDraft, event_of}
use Rattle.dap_outbox.proofs.Outboxes.{fits-within, long-within}
use Rattle.dap_outbox.proofs.outbox.Outbox.emit.Goals as goal

pub returns-then-branch-clause-writes : goal.returns-then-branch-clause-writes
returns-then-branch-clause-writes c =
    let event = event_of c.args.event in
    let fits = sym c.in_ok-emit_if_fits.ensures.fits ∙ c.if-branch.true in
    subst (λ (x : AdapterEvent). AppendsDraft c.args.most c.args.self.now c.emit_if_fits.new.self (emit x)) (sym (fits-within c.args.most (c.args.self.now.numbers.used + 1) event fits)) (c.in_ok-emit_if_fits.ensures.writes c.if-branch.true)

pub returns-then-branch-2-clause-writes : goal.returns-then-branch-2-clause-writes
returns-then-branch-2-clause-writes c =
    let event = event_of c.args.event in
    let long = sym c.in_ok-emit_if_fits.ensures.fits ∙ c.if-branch.false in
    let told = c.alone.ensures ∙ sym (long-within c.args.most (c.args.self.now.numbers.used + 1) event long) in
    let same = c.in_ok-emit_if_fits.ensures.too_long c.if-branch.false in
    let writes = subst (λ (o : OutboxState). AppendsDraft c.args.most o c.emit_if_fits-2.new.self (emit (event_of c.alone.result))) same (c.in_ok-emit_if_fits-2.ensures.writes c.if-branch-2.true) in
    subst (λ (x : AdapterEvent). AppendsDraft c.args.most c.args.self.now c.emit_if_fits-2.new.self (emit x)) told writes

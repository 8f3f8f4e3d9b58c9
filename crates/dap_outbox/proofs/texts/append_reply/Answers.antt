use Rattle.std.proofs.lemmas.Result.{on_ok_weaker}
use Rattle.dap_outbox.proofs.Outboxes.{reads-failure, reads-success}
use Rattle.dap_outbox.proofs.texts.append_reply.Goals as goal

pub returns-in-Failure-clause-reads_back : goal.returns-in-Failure-clause-reads_back
returns-in-Failure-clause-reads_back c =
    rw c.in-Failure.is
    (on_ok_weaker c.append_failure.result
    (λ reads. reads-failure c.fixed_messages_are_short.ensures.failures c.args.seq c.args.request.now c.in-Failure.failure reads)
    (rw c.as_str-command.ensures at c.append_failure.ensures.reads_back))

pub returns-in-Success-clause-reads_back : goal.returns-in-Success-clause-reads_back
returns-in-Success-clause-reads_back c =
    rw c.in-Success.is
    (on_ok_weaker c.append_answer.result
    (λ reads. reads-success c.fixed_messages_are_short.ensures.responses c.args.seq c.args.request.now c.in-Success.fixed reads)
    (rw (c.as_str-command.ensures, c.body_of.ensures) at c.append_answer.ensures.reads_back))

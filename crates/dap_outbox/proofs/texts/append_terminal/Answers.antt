use Rattle.std.proofs.lemmas.Result.{on_ok_weaker}
use Rattle.dap_outbox.proofs.Outboxes.{reads-asked}
use Rattle.dap_outbox.proofs.texts.append_terminal.Goals as goal

pub returns-clause-canon : goal.returns-clause-canon
returns-clause-canon c = rw (c.new.ensures, c.in_ok-write_terminal.ensures.tree, c.in_ok-call.ensures) at c.append_request.ensures.canon

pub returns-clause-reads_back : goal.returns-clause-reads_back
returns-clause-reads_back c =
    on_ok_weaker c.append_request.result (λ reads. reads-asked c.args.seq reads)
    (rw (c.new.ensures, c.in_ok-write_terminal.ensures.tree, c.in_ok-call.ensures) at c.append_request.ensures.reads_back)

use Rattle.std.proofs.lemmas.Result.{on_ok_weaker}
use Rattle.dap_outbox.proofs.texts.append_why.Goals as goal

pub returns-clause-reads_back : goal.returns-clause-reads_back
returns-clause-reads_back c =
    on_ok_weaker c.append_explained.result
    (λ reads small request. reads small request.seq request.command)
    (rw (c.as_str-command.ensures, c.as_str-why.ensures) at c.append_explained.ensures.reads_back)

use Rattle.std.proofs.lemmas.Result.{on_ok_weaker}
use Rattle.dap_outbox.proofs.texts.append_response.Goals as goal

pub returns-clause-reads_back : goal.returns-clause-reads_back
returns-clause-reads_back c =
    on_ok_weaker c.append_outcome.result
    (λ reads small request. reads small request.seq request.command)
    (rw c.as_str.ensures at c.append_outcome.ensures.reads_back)

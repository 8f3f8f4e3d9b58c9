use Rattle.std.proofs.Common.{IsTrue, subst}
use Rattle.std.proofs.lemmas.Result.{on_ok_weaker}
use Rattle.dap_client.specs.TerminalResponse.{is_plain_terminal}
use Rattle.dap_client.specs.declared.terminal.Terminal.{Terminal}
use Rattle.dap_client.proofs.TerminalRequests.{started-back, refused-back}
use Rattle.dap_client.proofs.answering.append_response.Goals as goal

pub returns-in-Started-clause-text : goal.returns-in-Started-clause-text
returns-in-Started-clause-text c = rw c.in-Started.is c.append_answer.ensures.canon

pub returns-in-Started-clause-reads_back : goal.returns-in-Started-clause-reads_back
returns-in-Started-clause-reads_back c =
    let range = subst (λ (t : Terminal). IsTrue (is_plain_terminal t)) c.in-Started.is c.requires.plain in
    rw c.in-Started.is
    (on_ok_weaker c.append_answer.result (λ back. started-back c.fixed_messages_are_short.ensures.responses c.args.number c.args.request_seq c.in-Started.process_id c.in-Started.shell_process_id range c.requires.number c.requires.request back)
    c.append_answer.ensures.reads_back)

pub returns-in-Refused-clause-text : goal.returns-in-Refused-clause-text
returns-in-Refused-clause-text c = rw c.in-Refused.is c.append_failure.ensures.canon

pub returns-in-Refused-clause-reads_back : goal.returns-in-Refused-clause-reads_back
returns-in-Refused-clause-reads_back c =
    rw c.in-Refused.is
    (on_ok_weaker c.append_failure.result (λ back. refused-back c.fixed_messages_are_short.ensures.failures c.args.number c.args.request_seq c.requires.number c.requires.request back)
    c.append_failure.ensures.reads_back)

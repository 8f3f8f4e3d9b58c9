use Rattle.std.proofs.Common.{◌∙◌, false, Some, None}
use Rattle.serde_json.specs.Written.{members_text}
use Rattle.dap_body.specs.Failure.{failure_body, row_of}
use Rattle.dap_envelope.specs.Canon.{response_members}
use Rattle.dap_message.specs.PrivateAnswering.{with_body}
use Rattle.dap_message.proofs.AnswerTexts.{both, front, joined, canon-response}
use Rattle.dap_message.proofs.ReadsBack.{name-text, failed-back}
use Rattle.dap_message.proofs.answering.append_failure.Goals as goal

pub returns-clause-canon : goal.returns-clause-canon
returns-clause-canon c =
    both c.open_failure-opened.result c.close.result _ _ _ c.close.ensures.opened c.open_failure-opened.ensures.ok c.close.ensures.ok
    (λ p q. joined c.args.out.now.items c.open_failure-opened.new.out.items c.close.new.out.items (with_body (Some (failure_body c.args.failure))) (members_text false (response_members c.args.seq c.args.request_seq false c.args.command.now (Some c.name-name.result.now) None)) _ p q (rw c.name-name.ensures (canon-response c.args.seq c.args.request_seq false c.args.command.now (Some (row_of c.args.failure).name) (Some (failure_body c.args.failure)))))

pub returns-clause-reads_back : goal.returns-clause-reads_back
returns-clause-reads_back c =
    both c.open_failure-opened.result c.close.result _ _ _ c.close.ensures.opened c.open_failure-opened.ensures.sound c.close.ensures.ok
    (λ sound e. failed-back c.written_is_read_again.ensures c.args.seq c.args.request_seq c.args.command.now c.args.failure c.utf8.command (name-text c.args.failure) sound)

pub returns-clause-err : goal.returns-clause-err
returns-clause-err c = front c.close.result c.len-start.result c.args.out.now.items c.open_failure-opened.new.out.items c.close.new.out.items (c.len-start.ensures ∙ c.args.out.now.ok.0) c.open_failure-opened.ensures.front c.close.ensures.err

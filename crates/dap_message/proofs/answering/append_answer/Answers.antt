use Rattle.std.proofs.Common.{◌∙◌, true, false, None}
use Rattle.serde_json.specs.Written.{members_text}
use Rattle.dap_body.specs.Body.{data_in}
use Rattle.dap_envelope.specs.Canon.{response_members}
use Rattle.dap_message.specs.PrivateAnswering.{with_body}
use Rattle.dap_message.proofs.AnswerTexts.{both, front, joined, canon-response}
use Rattle.dap_message.proofs.ReadsBack.{parts-plain, succeeded-back}
use Rattle.dap_message.proofs.answering.append_answer.Goals as goal

pub returns-clause-canon : goal.returns-clause-canon
returns-clause-canon c =
    both c.open_answer-opened.result c.close.result _ _ _ c.close.ensures.opened c.open_answer-opened.ensures.ok c.close.ensures.ok
    (λ p q. joined c.args.out.now.items c.open_answer-opened.new.out.items c.close.new.out.items (with_body (data_in c.args.body.now)) (members_text false (response_members c.args.seq c.args.request_seq true c.args.command.now None None)) _ p q (canon-response c.args.seq c.args.request_seq true c.args.command.now None (data_in c.args.body.now)))

pub returns-clause-reads_back : goal.returns-clause-reads_back
returns-clause-reads_back c =
    both c.open_answer-opened.result c.close.result _ _ _ c.close.ensures.opened c.open_answer-opened.ensures.sound c.close.ensures.ok
    (λ sound e. succeeded-back c.written_is_read_again.ensures c.args.seq c.args.request_seq c.args.command.now (data_in c.args.body.now) (parts-plain c.args.body.now) c.utf8.command sound)

pub returns-clause-err : goal.returns-clause-err
returns-clause-err c = front c.close.result c.len-start.result c.args.out.now.items c.open_answer-opened.new.out.items c.close.new.out.items (c.len-start.ensures ∙ c.args.out.now.ok.0) c.open_answer-opened.ensures.front c.close.ensures.err

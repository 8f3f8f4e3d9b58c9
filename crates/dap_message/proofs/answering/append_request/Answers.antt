use Rattle.std.proofs.Common.{◌∙◌, false, None}
use Rattle.serde_json.specs.Written.{members_text}
use Rattle.dap_envelope.specs.Canon.{request_members}
use Rattle.dap_message.specs.PrivateAnswering.{with_arguments}
use Rattle.dap_message.proofs.AnswerTexts.{both, front, joined, canon-request}
use Rattle.dap_message.proofs.ReadsBack.{asked-back}
use Rattle.dap_message.proofs.answering.append_request.Goals as goal

pub returns-clause-canon : goal.returns-clause-canon
returns-clause-canon c =
    both c.open_request-opened.result c.close.result _ _ _ c.close.ensures.opened c.open_request-opened.ensures.ok c.close.ensures.ok
    (λ p q. joined c.args.out.now.items c.open_request-opened.new.out.items c.close.new.out.items (with_arguments c.args.arguments.now) (members_text false (request_members c.args.seq c.args.command.now None)) _ p q (canon-request c.args.seq c.args.command.now c.args.arguments.now))

pub returns-clause-reads_back : goal.returns-clause-reads_back
returns-clause-reads_back c =
    both c.open_request-opened.result c.close.result _ _ _ c.close.ensures.opened c.open_request-opened.ensures.sound c.close.ensures.ok
    (λ sound e. asked-back c.written_is_read_again.ensures c.args.seq c.args.command.now c.args.arguments.now c.requires c.utf8.command sound)

pub returns-clause-err : goal.returns-clause-err
returns-clause-err c = front c.close.result c.len-start.result c.args.out.now.items c.open_request-opened.new.out.items c.close.new.out.items (c.len-start.ensures ∙ c.args.out.now.ok.0) c.open_request-opened.ensures.front c.close.ensures.err

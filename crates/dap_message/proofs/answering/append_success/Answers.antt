use Rattle.std.proofs.Common.{◌∙◌, false, true, None}
use Rattle.serde_json.specs.Written.{members_text}
use Rattle.dap_envelope.specs.Canon.{response_members}
use Rattle.dap_message.specs.PrivateAnswering.{with_body}
use Rattle.dap_message.proofs.AnswerTexts.{both, front, joined, canon-response}
use Rattle.dap_message.proofs.ReadsBack.{succeeded-back}
use Rattle.dap_message.proofs.answering.append_success.Goals as goal

pub returns-clause-canon : goal.returns-clause-canon
returns-clause-canon c =
    both c.open_tree-opened.result c.close.result _ _ _ c.close.ensures.opened c.open_tree-opened.ensures.ok c.close.ensures.ok
    (λ p q. joined c.args.out.now.items c.open_tree-opened.new.out.items c.close.new.out.items (with_body c.args.body.now) (members_text false (response_members c.args.seq c.args.request_seq true c.args.command.now None None)) _ p q (canon-response c.args.seq c.args.request_seq true c.args.command.now None c.args.body.now))

pub returns-clause-reads_back : goal.returns-clause-reads_back
returns-clause-reads_back c =
    both c.open_tree-opened.result c.close.result _ _ _ c.close.ensures.opened c.open_tree-opened.ensures.sound c.close.ensures.ok
    (λ sound e. succeeded-back c.written_is_read_again.ensures c.args.seq c.args.request_seq c.args.command.now c.args.body.now c.requires c.utf8.command sound)

pub returns-clause-err : goal.returns-clause-err
returns-clause-err c = front c.close.result c.len-start.result c.args.out.now.items c.open_tree-opened.new.out.items c.close.new.out.items (c.len-start.ensures ∙ c.args.out.now.ok.0) c.open_tree-opened.ensures.front c.close.ensures.err

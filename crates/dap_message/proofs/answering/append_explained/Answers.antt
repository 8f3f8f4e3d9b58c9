use Rattle.std.proofs.Common.{◌∙◌, false, Some, None}
use Rattle.serde_json.specs.Written.{members_text}
use Rattle.dap_body.specs.Failure.{explained_body, row_of}
use Rattle.dap_body.specs.declared.failure.Failure.TheVariants.{Debuggee}
use Rattle.dap_envelope.specs.Canon.{response_members}
use Rattle.dap_message.specs.PrivateAnswering.{with_body}
use Rattle.dap_message.proofs.AnswerTexts.{both, front, joined, canon-response}
use Rattle.dap_message.proofs.ReadsBack.{explained-back}
use Rattle.dap_message.proofs.answering.append_explained.Goals as goal

pub returns-clause-canon : goal.returns-clause-canon
returns-clause-canon c =
    both c.open_explained-opened.result c.close.result _ _ _ c.close.ensures.opened c.open_explained-opened.ensures.ok c.close.ensures.ok
    (λ p q. joined c.args.out.now.items c.open_explained-opened.new.out.items c.close.new.out.items (with_body (Some (explained_body c.args.show_user c.args.why.now))) (members_text false (response_members c.args.seq c.args.request_seq false c.args.command.now (Some c.name-name.result.now) None)) _ p q (rw c.name-name.ensures (canon-response c.args.seq c.args.request_seq false c.args.command.now (Some (row_of Debuggee).name) (Some (explained_body c.args.show_user c.args.why.now)))))

pub returns-clause-reads_back : goal.returns-clause-reads_back
returns-clause-reads_back c =
    both c.open_explained-opened.result c.close.result _ _ _ c.close.ensures.opened c.open_explained-opened.ensures.sound c.close.ensures.ok
    (λ sound e. explained-back c.written_is_read_again.ensures c.args.seq c.args.request_seq c.args.command.now c.args.show_user c.args.why.now c.utf8.command sound)

pub returns-clause-err : goal.returns-clause-err
returns-clause-err c = front c.close.result c.len-start.result c.args.out.now.items c.open_explained-opened.new.out.items c.close.new.out.items (c.len-start.ensures ∙ c.args.out.now.ok.0) c.open_explained-opened.ensures.front c.close.ensures.err

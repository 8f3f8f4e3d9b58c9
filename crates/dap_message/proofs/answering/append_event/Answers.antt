use Rattle.std.proofs.Common.{◌∙◌, false, None}
use Rattle.serde_json.specs.Written.{members_text}
use Rattle.dap_body.specs.Body.{event_data_in}
use Rattle.dap_envelope.specs.Canon.{event_members}
use Rattle.dap_message.specs.PrivateAnswering.{with_body}
use Rattle.dap_message.proofs.AnswerTexts.{both, front, joined, canon-event}
use Rattle.dap_message.proofs.ReadsBack.{event-plain, happened-back}
use Rattle.dap_message.proofs.answering.append_event.Goals as goal

pub returns-clause-canon : goal.returns-clause-canon
returns-clause-canon c =
    both c.open_event-opened.result c.close.result _ _ _ c.close.ensures.opened c.open_event-opened.ensures.ok c.close.ensures.ok
    (λ p q. joined c.args.out.now.items c.open_event-opened.new.out.items c.close.new.out.items (with_body (event_data_in c.args.body)) (members_text false (event_members c.args.seq c.args.event.now None)) _ p q (canon-event c.args.seq c.args.event.now (event_data_in c.args.body)))

pub returns-clause-reads_back : goal.returns-clause-reads_back
returns-clause-reads_back c =
    both c.open_event-opened.result c.close.result _ _ _ c.close.ensures.opened c.open_event-opened.ensures.sound c.close.ensures.ok
    (λ sound e. happened-back c.written_is_read_again.ensures c.args.seq c.args.event.now (event_data_in c.args.body) (event-plain c.args.body) c.utf8.event sound)

pub returns-clause-err : goal.returns-clause-err
returns-clause-err c = front c.close.result c.len-start.result c.args.out.now.items c.open_event-opened.new.out.items c.close.new.out.items (c.len-start.ensures ∙ c.args.out.now.ok.0) c.open_event-opened.ensures.front c.close.ensures.err

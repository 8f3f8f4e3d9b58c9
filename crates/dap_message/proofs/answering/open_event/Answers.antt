use Rattle.std.proofs.Common.{◌∙◌, ◌++◌, ap, codes}
use Rattle.serde_json.specs.Written.{compact_text}
use Rattle.dap_body.specs.Body.{event_data}
use Rattle.dap_message.proofs.AnswerTexts.{thrice}
use Rattle.dap_message.proofs.answering.open_event.Goals as goal

pub returns-clause-ok : goal.returns-clause-ok
returns-clause-ok c =
    rw c.in-Some.is
    (thrice c.args.out.now.items c.extend_from_slice.new.self.items c.append_event_body.new.out.items c.push-2.new.self.items (codes "{\"body\":") (compact_text (event_data c.in-Some.body)) (codes ",")
    (c.in_ok-extend_from_slice.ensures.items ∙ ap (λ s. s ++ codes "{\"body\":") c.in_ok-reserve.ensures.items)
    c.in_ok-append_event_body.ensures.ok
    c.in_ok-push-2.ensures.items)

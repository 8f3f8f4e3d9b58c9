use Rattle.std.proofs.Common.{◌∙◌, ◌++◌, ap, codes}
use Rattle.serde_json.specs.Written.{compact_text}
use Rattle.dap_body.specs.Body.{data_of}
use Rattle.dap_message.proofs.AnswerTexts.{thrice}
use Rattle.dap_message.proofs.answering.open_answer.Goals as goal

pub returns-clause-ok : goal.returns-clause-ok
returns-clause-ok c =
    rw c.in-Some.is
    (thrice c.args.out.now.items c.extend_from_slice.new.self.items c.append_body.new.out.items c.push-2.new.self.items (codes "{\"body\":") (compact_text (data_of c.in-Some.body)) (codes ",")
    (c.in_ok-extend_from_slice.ensures.items ∙ ap (λ s. s ++ codes "{\"body\":") c.in_ok-reserve-2.ensures.items)
    c.in_ok-append_body.ensures.ok
    c.in_ok-push-2.ensures.items)

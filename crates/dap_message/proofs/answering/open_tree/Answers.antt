use Rattle.std.proofs.Common.{◌∙◌, ◌++◌, ap, codes}
use Rattle.serde_json.specs.Written.{compact_text}
use Rattle.dap_message.proofs.AnswerTexts.{thrice}
use Rattle.dap_message.proofs.answering.open_tree.Goals as goal

pub returns-clause-ok : goal.returns-clause-ok
returns-clause-ok c =
    let text = c.deref.ensures.value ∙ c.in_ok-tree_text.ensures.text in
    rw c.in-Some.is
    (thrice c.args.out.now.items c.extend_from_slice.new.self.items c.extend_from_slice-2.new.self.items c.push-2.new.self.items (codes "{\"body\":") (compact_text c.in-Some.body) (codes ",")
    (c.in_ok-extend_from_slice.ensures.items ∙ ap (λ s. s ++ codes "{\"body\":") c.in_ok-reserve.ensures.items)
    (c.in_ok-extend_from_slice-2.ensures.items ∙ ap (λ s. c.extend_from_slice.new.self.items ++ s) text)
    c.in_ok-push-2.ensures.items)

use Rattle.std.proofs.Common.{◌≡◌, ◌∙◌, ◌++◌, ap}
use Rattle.std.proofs.lemmas.Result.{on_ok_weaker}
use Rattle.json.specs.Tree.{members_tokens}
use Rattle.serde_json.specs.Written.{members_outline}
use Rattle.dap_message.specs.PrivateAnswering.{end_members}
use Rattle.dap_message.proofs.AnswerTexts.{print-members}
use Rattle.dap_message.proofs.answering.close.Goals as goal

pub returns-else-is_err-2-clause-ok : goal.returns-else-is_err-2-clause-ok
returns-else-is_err-2-clause-ok c =
    on_ok_weaker c.write_end-result.result
    (λ e.
    let ms = end_members c.args.end in
    let before : c.write_end-result.new.out.before ≡ c.args.out.now.items = e.before ∙ c.new-writer.ensures.before ∙ rw c.replace.ensures.value in
    let tokens : c.write_end-result.new.out.tokens ≡ members_tokens (members_outline ms) = e.tokens ∙ rw c.new-writer.ensures.tokens in
    c.into_inner.ensures.items ∙ rw (before, tokens) (ap (λ s. c.args.out.now.items ++ s) (print-members ms)))
    c.write_end-result.ensures.adds

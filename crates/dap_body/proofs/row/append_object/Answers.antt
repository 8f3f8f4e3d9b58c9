use Rattle.std.proofs.Common.{◌≡◌, ◌∙◌, ◌++◌, ap}
use Rattle.std.proofs.lemmas.Result.{on_ok_weaker}
use Rattle.serde_json.proofs.Texts.{print-outline}
use Rattle.dap_body.specs.Row.{object_of}
use Rattle.dap_body.specs.PrivateText.{tokens_of}
use Rattle.dap_body.proofs.row.append_object.Goals as goal

pub returns-else-is_err-clause-ok : goal.returns-else-is_err-clause-ok
returns-else-is_err-clause-ok g c =
    on_ok_weaker c.write_object-result.result
    (λ e.
    let d = object_of (g.T.Fields.written c.args.value.now) in
    let before : c.write_object-result.new.out.before ≡ c.args.out.now.items = c.write_object-result.ensures.before ∙ c.new-writer.ensures.before ∙ rw c.replace.ensures.value in
    let tokens : c.write_object-result.new.out.tokens ≡ tokens_of d = e ∙ rw c.new-writer.ensures.tokens in
    c.into_inner.ensures.items ∙ rw (before, tokens) (ap (λ s. c.args.out.now.items ++ s) (print-outline d)))
    c.write_object-result.ensures.adds

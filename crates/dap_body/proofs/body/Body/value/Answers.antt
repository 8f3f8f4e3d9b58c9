use Rattle.std.proofs.Common.{◌∙◌, ◌++◌, ap, sym, Err}
use Rattle.serde_json.specs.Written.{compact_text}
use Rattle.dap_json.specs.Read.{json_of}
use Rattle.dap_body.specs.Body.{data_of}
use Rattle.dap_body.proofs.PlainBodies.{body-again, same-data, not-none}
use Rattle.dap_body.proofs.body.Body.value.Goals as goal

pub returns-in-Ok : goal.returns-in-Ok
returns-in-Ok c =
    let text = c.in_ok-append_body.ensures.ok ∙ ap (λ xs. xs ++ compact_text (data_of c.args.self.now)) c.new-text.ensures.items in
    same-data (sym c.in-Ok.ensures.ok ∙ (ap json_of (c.deref.ensures.value ∙ text) ∙ body-again c.text_is_read_again.ensures c.args.self.now c.in_ok-append_body.ensures.sound))

pub unreachable-requires : goal.unreachable-requires
unreachable-requires c =
    let text = c.in_ok-append_body.ensures.ok ∙ ap (λ xs. xs ++ compact_text (data_of c.args.self.now)) c.new-text.ensures.items in
    not-none (sym (c.in-Err-NotJson.ensures.refused (ap Err c.in-Err-NotJson.field-0-is)) ∙ (ap json_of (c.deref.ensures.value ∙ text) ∙ body-again c.text_is_read_again.ensures c.args.self.now c.in_ok-append_body.ensures.sound))

use Rattle.std.proofs.Common.{◌∙◌, ◌++◌, ap, sym, Err}
use Rattle.serde_json.specs.Written.{compact_text}
use Rattle.dap_json.specs.Read.{json_of}
use Rattle.dap_body.specs.Body.{event_data}
use Rattle.dap_body.proofs.PlainBodies.{event-again, same-data, not-none}
use Rattle.dap_body.proofs.event.value.Goals as goal

pub returns-in-Ok : goal.returns-in-Ok
returns-in-Ok c =
    let text = c.in_ok-append_event_body.ensures.ok ∙ ap (λ xs. xs ++ compact_text (event_data c.args.body)) c.new-text.ensures.items in
    same-data (sym c.in-Ok.ensures.ok ∙ (ap json_of (c.deref.ensures.value ∙ text) ∙ event-again c.text_is_read_again.ensures c.args.body c.in_ok-append_event_body.ensures.sound))

pub unreachable-requires : goal.unreachable-requires
unreachable-requires c =
    let text = c.in_ok-append_event_body.ensures.ok ∙ ap (λ xs. xs ++ compact_text (event_data c.args.body)) c.new-text.ensures.items in
    not-none (sym (c.in-Err-NotJson.ensures.refused (ap Err c.in-Err-NotJson.field-0-is)) ∙ (ap json_of (c.deref.ensures.value ∙ text) ∙ event-again c.text_is_read_again.ensures c.args.body c.in_ok-append_event_body.ensures.sound))

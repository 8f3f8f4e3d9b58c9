use Rattle.std.proofs.Common.{ap, ◌∙◌}
use Rattle.std.specs.Prelude.{bytes_eq}
use Rattle.std.specs.List.{list_any}
use Rattle.dap_explain.specs.KeptNotes.{asked_of, waiting_at}
use Rattle.dap_explain.proofs.NoteLemmas.{answer_by}
use Rattle.dap_explain.proofs.notes.Notes.explain_answer.Goals as goal

pub returns-in-Response : goal.returns-in-Response
returns-in-Response c = λ earlier is.
    let line = c.args.line.now in
    let response = c.in-Response in
    answer_by c.args.self.now earlier is line.side line.message.seq response.request_seq response.success response.command response.message response.body line.message.kind c.asked-asked.result.now c.waits_for.result c.last-in-Response.result
    c.explain_response.result response.is (c.asked-asked.ensures ∙ ap (asked_of c.args.self.now) c.opposite.ensures)
    (c.waits_for.ensures ∙ ap (λ name. list_any (λ command. bytes_eq command name) (waiting_at c.asked-asked.result.now response.request_seq)) c.as_str.ensures) c.last-in-Response.ensures c.explain_response.ensures

use Rattle.std.proofs.Common.{sym, ap, ◌∙◌}
use Rattle.dap_command.specs.Command.{command_named}
use Rattle.dap_tables.specs.Outstanding.{entry_with}
use Rattle.dap_client.proofs.Answered.{unlearned-closes, known_after-answers}
use Rattle.dap_client.proofs.session.Session.take_response.Goals as goal

pub returns-in-Err-learn-clause-refused : goal.returns-in-Err-learn-clause-refused
returns-in-Err-learn-clause-refused c =
    let s = c.args.self.now in
    unlearned-closes c.in-Err-learn.fault (entry_with c.args.request_seq s.outstanding) c.args.request_seq c.args.success c.args.command.now c.of_name-known.result c.args.body.now s
    (sym c.matches.ensures ∙ c.in-Ok.is) (c.of_name-known.ensures ∙ ap command_named c.as_str.ensures) c.in-Err-learn.ensures.refused

pub returns-in-Some-clause-ok : goal.returns-in-Some-clause-ok
returns-in-Some-clause-ok c =
    let s = c.args.self.now in
    known_after-answers (entry_with c.args.request_seq s.outstanding) c.args.request_seq c.args.success c.args.command.now c.of_name-known.result c.in-Some.command c.args.body.now s c.learn.new.self c.settle.new.self c.note_answer.new.self
    (sym c.matches.ensures ∙ c.in-Ok.is) (c.of_name-known.ensures ∙ ap command_named c.as_str.ensures) c.in-Some.is c.in-Ok-learn.ensures.within c.in-Ok-learn.ensures.ok c.settle.ensures c.note_answer.ensures

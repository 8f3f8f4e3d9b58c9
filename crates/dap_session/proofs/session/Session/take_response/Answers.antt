use Rattle.std.proofs.Common.{Some, ap, sym, ◌∙◌}
use Rattle.dap_session.proofs.AskFaults.{own-taken}
use Rattle.dap_session.proofs.session.Session.take_response.Goals as goal

pub returns-in-Some-true-clause-taken : goal.returns-in-Some-true-clause-taken
returns-in-Some-true-clause-taken g c =
    own-taken g.D.Debuggee.follows c.args.request_seq c.args.success c.args.command.now c.args.self.now _ c.args.out.now.bytes (sym c.answers_own.ensures ∙ (c.in-Some-true.is ∙ ap (λ b. Some b) c.in-Some-true.field-0-test)) c.end_own.ensures c.requires.ready.none

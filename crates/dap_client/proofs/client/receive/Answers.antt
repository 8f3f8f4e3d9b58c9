use Rattle.std.proofs.Common.{Option, subst}
use Rattle.std.proofs.lemmas.Result.{err_from_is_err_and}
use Rattle.dap_envelope.specs.declared.message.Message.{Message}
use Rattle.dap_reader.specs.Reader.{Gives, GivesOne}
use Rattle.dap_client.proofs.Refusing.{untaken_refused}
use Rattle.dap_client.proofs.client.receive.Goals as goal

pub returns-in_err-bytes-clause-refused : goal.returns-in_err-bytes-clause-refused
returns-in_err-bytes-clause-refused c =
    let p = err_from_is_err_and c.from_residual.result c.from_residual.ensures.1 in
    let g : GivesOne c.args.reader.now.intake c.next.new.self.intake c.args.piece.now c.in-Ok.next.used c.in-Some.message = subst (λ (o : Option Message). Gives c.args.reader.now.intake c.next.new.self.intake c.args.piece.now c.in-Ok.next.used o) c.in-Some.is c.in-Ok.ensures.gives in
    rw (p.1, p.2) (untaken_refused c.args.reader.now.intake g.whole.ready c.args.session.now c.args.piece.now c.in-Ok.next.used c.in-Some.message c.in_err-bytes.field-0.0 g.whole.completes g.read c.in_err-bytes.ensures.refused)

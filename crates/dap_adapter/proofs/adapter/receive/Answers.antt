use Rattle.std.proofs.Common.{Option, subst}
use Rattle.std.proofs.lemmas.Result.{err_from_is_err_and}
use Rattle.dap_envelope.specs.declared.message.Message.{Message}
use Rattle.dap_reader.specs.Reader.{Gives, GivesOne}
use Rattle.dap_plan.specs.Taking.{takes}
use Rattle.dap_adapter.proofs.Refusing.{untaken_refused, unread_refused, named_stays, apart_stays}
use Rattle.dap_adapter.proofs.adapter.receive.Goals as goal

pub returns-in_err-take-clause-refused : goal.returns-in_err-take-clause-refused
returns-in_err-take-clause-refused g c =
    let p = err_from_is_err_and c.from_residual.result c.from_residual.ensures.1 in
    let gives : GivesOne c.args.reader.now.intake c.next.new.self.intake c.args.piece.now c.in-Ok.next.used c.in-Some.message = subst (λ (o : Option Message). Gives c.args.reader.now.intake c.next.new.self.intake c.args.piece.now c.in-Ok.next.used o) c.in-Some.is c.in-Ok.ensures.gives in
    rw (p.1, p.2) (untaken_refused c.args.reader.now.intake gives.whole.ready c.args.session.now c.args.piece.now c.in-Ok.next.used c.in-Some.message c.in_err-take.field-0.0 c.take.new.self.debuggee gives.whole.completes gives.read c.in_err-take.ensures.refused c.in_err-take.ensures.unasked)

pub returns-in_err-take-clause-debuggee : goal.returns-in_err-take-clause-debuggee
returns-in_err-take-clause-debuggee g c =
    let p = err_from_is_err_and c.from_residual.result c.from_residual.ensures.1 in
    rw (p.1, p.2) (λ other. named_stays c.in_err-take.field-0.0 (takes c.in-Some.message c.args.session.now.session) c.args.session.now.debuggee c.take.new.self.debuggee c.in_err-take.ensures.refused other c.in_err-take.ensures.unasked)

pub returns-in_err-take-clause-unasked : goal.returns-in_err-take-clause-unasked
returns-in_err-take-clause-unasked g c =
    let p = err_from_is_err_and c.from_residual.result c.from_residual.ensures.1 in
    rw p.1 (λ apart. apart_stays c.in-Some.message c.args.session.now.session c.args.session.now.debuggee c.take.new.self.debuggee apart c.in_err-take.ensures.unasked)

pub returns-in-Err-clause-refused : goal.returns-in-Err-clause-refused
returns-in-Err-clause-refused g c = unread_refused c.args.reader.now.intake c.args.session.now c.args.piece.now c.in-Err.fault c.refused_by.result (c.in-Err.ensures.refused c.requires) c.refused_by.ensures

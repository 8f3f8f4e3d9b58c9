use Rattle.std.proofs.Common.{sym, subst}
use Rattle.std.proofs.lemmas.Bool.{not-false}
use Rattle.std.proofs.lemmas.Result.{err_from_is_err_and}
use Rattle.dap_frame.specs.Intake.{Intake, IsReady, StandsFor}
use Rattle.dap_reader.proofs.Reading.{unread_refused}
use Rattle.dap_reader.proofs.reader.read_next.Goals as goal

pub returns-in-Err-clause-refused : goal.returns-in-Err-clause-refused
returns-in-Err-clause-refused c = record { some = c.in-Err.ensures.some c.requires; closed = c.feed.new.self; closes = c.in-Err.ensures.closes c.requires }

pub returns-in_err-message-clause-refused : goal.returns-in_err-message-clause-refused
returns-in_err-message-clause-refused c =
    let p = err_from_is_err_and c.from_residual.result c.from_residual.ensures.1 in
    rw (p.1, p.2) (unread_refused c.args.frames.now c.feed.new.self c.args.piece.now c.in-Ok.fed.used c.in_err-message.field-0.0 (c.in-Ok.ensures.completes (not-false _ c.if-not-fed.false) c.requires) c.in_err-message.ensures.fault)

pub returns-clause-gives : goal.returns-clause-gives
returns-clause-gives c =
    let same = c.in_ok-message.ensures.same in
    record {
      whole = record { ready = c.feed.new.self; completes = c.in-Ok.ensures.completes (not-false _ c.if-not-fed.false) c.requires };
      read = c.in_ok-message.ensures.read;
      under_way = c.release.ensures.under_way (subst IsReady (sym same) (c.in-Ok.ensures.completes (not-false _ c.if-not-fed.false) c.requires).ready);
      stands = λ s xs rest f. c.release.ensures.stands s xs rest (subst (λ (v : Intake). StandsFor v s xs rest) (sym same) f);
    }

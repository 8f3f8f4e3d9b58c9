use Rattle.std.proofs.lemmas.Result.{err_from_is_err_and}
use Rattle.dap_drive.proofs.ends.Drive.run.Goals as goal

pub returns-clause-ran : goal.returns-clause-ran
returns-clause-ran g c = λ limits debuggee start q. c.in_ok-polls.ensures.ran limits debuggee start (c.in_ok-turns.ensures.ran limits debuggee start q)

pub returns-in_err-turns-clause-stops : goal.returns-in_err-turns-clause-stops
returns-in_err-turns-clause-stops g c =
    let p = err_from_is_err_and c.from_residual.result c.from_residual.ensures.1 in
    rw (p.1, p.2) (λ limits debuggee start q. c.in_err-turns.ensures.stops limits debuggee start q)

pub returns-in_err-polls-clause-stops : goal.returns-in_err-polls-clause-stops
returns-in_err-polls-clause-stops g c =
    let p = err_from_is_err_and c.from_residual-in_err-polls.result c.from_residual-in_err-polls.ensures.1 in
    rw (p.1, p.2) (λ limits debuggee start q. c.in_err-polls.ensures.stops limits debuggee start (c.in_ok-turns.ensures.ran limits debuggee start q))

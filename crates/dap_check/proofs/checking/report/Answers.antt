use Rattle.dap_check.specs.PrivateJudged.{by_seven}
use Rattle.dap_check.proofs.checking.report.Goals as goal

pub returns-in-Ok : goal.returns-in-Ok
returns-in-Ok c = λ any_seq texts lines is. record { found = is.found; unanswered = c.in-Ok.ensures (by_seven any_seq) texts lines is.taken }

use Rattle.dap_explain.specs.PrivateWalks.{explaining}
use Rattle.dap_explain.proofs.Walked.{noted_more}
use Rattle.dap_explain.proofs.walking.take_text.Goals as goal

pub returns-clause-noted : goal.returns-clause-noted
returns-clause-noted c = λ texts read is. noted_more texts read c.args.text.now c.in_ok-told.told c.line.new.self (c.in_ok-told.ensures.told explaining texts read is)

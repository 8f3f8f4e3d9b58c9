use Rattle.std.proofs.Common.{sym, ◌∙◌}
use Rattle.dap_check.proofs.JudgedLines.{judged_rule}
use Rattle.dap_check.proofs.Outcomes.{if_ok}
use Rattle.dap_check.proofs.judging.judge_body.Goals as goal

pub returns-in-Some-clause-judged : goal.returns-in-Some-clause-judged
returns-in-Some-clause-judged c = λ mode earlier given real asked line read faultless whole least. judged_rule mode earlier given real c.args.read.now c.in-Some.rule read whole (sym least ∙ c.in-Some.is)

pub returns-in-None-clause-judged : goal.returns-in-None-clause-judged
returns-in-None-clause-judged c =
    if_ok c.judge_unbroken.result _ _ c.judge_unbroken.ensures.judged (λ broken are mode earlier given real asked line read faultless whole least. are mode earlier given real asked line read faultless whole (sym least ∙ c.in-None.is))

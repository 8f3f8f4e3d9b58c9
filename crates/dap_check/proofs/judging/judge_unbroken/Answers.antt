use Rattle.std.proofs.Common.{sym, ◌∙◌}
use Rattle.dap_check.proofs.JudgedLines.{judged_none, quiet, are_asked}
use Rattle.dap_check.proofs.Outcomes.{if_ok}
use Rattle.dap_check.proofs.judging.judge_unbroken.Goals as goal

pub returns-then-is_done-clause-judged : goal.returns-then-is_done-clause-judged
returns-then-is_done-clause-judged c = λ mode earlier given real asked line read faultless whole least.
    judged_none mode earlier given real c.args.read.now read whole least (λ bodies. quiet c.args.bodies c.args.read.now.is_sound (sym c.is_either-is_done.ensures ∙ c.if-is_done.true) _ faultless (sym asked ∙ bodies))

pub returns-clause-judged : goal.returns-clause-judged
returns-clause-judged c =
    if_ok c.judge_message.result _ _ c.judge_message.ensures.judged (λ broken are mode earlier given real asked line read faultless whole least.
    are mode earlier given real (asked ∙ are_asked c.args.bodies c.args.read.now.is_sound (sym c.is_either-is_done.ensures ∙ c.if-is_done.false)) line read least)

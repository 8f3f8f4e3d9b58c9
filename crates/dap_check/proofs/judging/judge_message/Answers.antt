use Rattle.dap_check.proofs.JudgedLines.{judged_body}
use Rattle.dap_check.proofs.judging.judge_message.Goals as goal

pub returns-in-Ok-clause-judged : goal.returns-in-Ok-clause-judged
returns-in-Ok-clause-judged c = λ mode earlier given real bodies line read least.
    judged_body mode earlier given real c.make_whole.new.read c.in-Ok.broken (c.in_ok-make_whole.ensures.line given real line read) least bodies c.in-Ok.ensures

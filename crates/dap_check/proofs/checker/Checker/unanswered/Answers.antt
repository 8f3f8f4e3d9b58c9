use Rattle.dap_check.proofs.Judged.{lines_ascend}
use Rattle.dap_check.proofs.Outcomes.{if_ok}
use Rattle.dap_check.proofs.checker.Checker.unanswered.Goals as goal

pub returns : goal.returns
returns c = if_ok c.in_order.result _ _ c.in_order.ensures (λ requests are mode texts lines is. are lines (lines_ascend 1 texts lines is.are) is.seen.pending)

use Rattle.dap_explain.proofs.Outcomes.{if_ok}
use Rattle.dap_explain.proofs.reasoning.ExplainedChecker.unanswered.Goals as goal

pub returns : goal.returns
returns c = if_ok c.unanswered.result _ _ c.unanswered.ensures (λ requests are mode texts lines is. are mode texts lines is.taken)

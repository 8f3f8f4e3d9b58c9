use Rattle.std.proofs.Common.{◌+◌, subst}
use Rattle.dap_check.specs.Transcript.{IsLine}
use Rattle.dap_explain.proofs.reasoning.ExplainedChecker.reason.Goals as goal

pub returns-clause-reason : goal.returns-clause-reason
returns-clause-reason c = λ mode texts lines whole is. (c.in_ok-line.line, subst (λ n. IsLine (n + 1) c.args.text.now c.in_ok-line.line) c.taken-number.ensures c.in_ok-line.ensures.line, c.explain.ensures lines (is.notes whole))

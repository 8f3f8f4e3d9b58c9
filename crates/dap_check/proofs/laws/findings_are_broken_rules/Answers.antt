use Rattle.dap_check.proofs.FindingLemmas.{first_is_the_verdict}
use Rattle.dap_check.proofs.Listed.{findings_are_broken_rules}
use Rattle.dap_check.proofs.laws.findings_are_broken_rules.Goals as goal

pub returns-clause-listed : goal.returns-clause-listed
returns-clause-listed c = findings_are_broken_rules

pub returns-clause-first : goal.returns-clause-first
returns-clause-first c = first_is_the_verdict

use Rattle.dap_explain.proofs.ReasonLemmas.{broken_rules_have_reasons}
use Rattle.dap_explain.proofs.laws.broken_rules_have_reasons.Goals as goal

pub returns : goal.returns
returns c = broken_rules_have_reasons c.earlier_lines_are_places.ensures.open c.earlier_lines_are_places.ensures.some c.rules_are_told_by_places.ensures.offer

use Rattle.dap_check.proofs.RulesByPlaces.{answer_is_by_places, first_request_is_by_places, offer_is_by_places, references_are_by_places}
use Rattle.dap_check.proofs.laws.rules_are_told_by_places.Goals as goal

pub returns-clause-answer : goal.returns-clause-answer
returns-clause-answer c = answer_is_by_places

pub returns-clause-first_request : goal.returns-clause-first_request
returns-clause-first_request c = first_request_is_by_places

pub returns-clause-offer : goal.returns-clause-offer
returns-clause-offer c = offer_is_by_places

pub returns-clause-references : goal.returns-clause-references
returns-clause-references c = references_are_by_places

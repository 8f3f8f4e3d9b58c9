use Rattle.dap_check.proofs.ByPlaces.{some_is_a_place, open_is_a_place, first_is_a_place, last_is_a_place}
use Rattle.dap_check.proofs.laws.earlier_lines_are_places.Goals as goal

pub returns-clause-some : goal.returns-clause-some
returns-clause-some c = some_is_a_place

pub returns-clause-open : goal.returns-clause-open
returns-clause-open c = open_is_a_place

pub returns-clause-first : goal.returns-clause-first
returns-clause-first c = first_is_a_place

pub returns-clause-last : goal.returns-clause-last
returns-clause-last c = last_is_a_place

use Rattle.dap_plan.proofs.Offers.{offers_are_served, each_offer_is_served, opened_is_unserved}
use Rattle.dap_plan.proofs.laws.offers_are_served.Goals as goal

pub returns-clause-usual : goal.returns-clause-usual
returns-clause-usual c = offers_are_served

pub returns-clause-each : goal.returns-clause-each
returns-clause-each c = each_offer_is_served

pub returns-clause-opened : goal.returns-clause-opened
returns-clause-opened c = opened_is_unserved

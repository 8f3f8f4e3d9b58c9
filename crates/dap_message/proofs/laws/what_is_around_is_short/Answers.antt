use Rattle.dap_message.proofs.Lengths.{what_is_around_is_short as around, the_usual_offer_fits}
use Rattle.dap_message.proofs.laws.what_is_around_is_short.Goals as goal

pub returns-clause-around : goal.returns-clause-around
returns-clause-around c = around

pub returns-clause-usual : goal.returns-clause-usual
returns-clause-usual c = the_usual_offer_fits

use Rattle.dap_plan.proofs.PlacesLeft.{lending_stays_well}
use Rattle.dap_plan.proofs.laws.lending_stays_well.Goals as goal

pub returns : goal.returns
returns c = lending_stays_well
